pub mod Knowledge
pub mod Turns
pub mod Steps
pub mod Handles
