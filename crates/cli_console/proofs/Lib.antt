pub mod Lines
pub mod Reasons
pub mod Calls
pub mod Meanings
