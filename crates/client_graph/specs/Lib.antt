pub mod Contexts
pub mod Opening
pub mod FoundObject
pub mod Wants
pub mod Graph
pub mod Answers
pub mod Forwarded
pub mod Jar
