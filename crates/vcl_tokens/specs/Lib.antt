pub mod Longest
pub mod Marks
pub mod Reading
pub mod Spelling
pub mod Steps
pub mod Words
