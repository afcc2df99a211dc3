pub mod Looks
pub mod Verdicts
