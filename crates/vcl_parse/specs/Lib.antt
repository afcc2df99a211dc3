pub mod Machine
pub mod Parsing
pub mod Starts
pub mod Steps
pub mod Telling
