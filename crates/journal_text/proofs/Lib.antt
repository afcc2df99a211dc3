pub mod Behind
pub mod Spelling
