pub mod Returns
pub mod RunStates
pub mod Runs
pub mod Statements
pub mod States
pub mod Steps
pub mod Turns
pub mod Weights
