pub mod Lines
pub mod Instructions
pub mod Talks
pub mod Answering
pub mod Complete
