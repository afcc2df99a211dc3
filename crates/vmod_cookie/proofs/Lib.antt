pub mod Reading
pub mod Loops
pub mod OwnNames
pub mod ReadingBack
pub mod Operations
