pub mod Cuts
pub mod Words
pub mod Meanings
pub mod Going
pub mod Commanded
pub mod Generating
pub mod Shortness
