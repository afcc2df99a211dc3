pub mod Contexts
pub mod Opening
pub mod Graph
pub mod Answers
pub mod Wants
pub mod Jar
