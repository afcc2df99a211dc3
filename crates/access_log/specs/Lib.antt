pub mod Moments
pub mod Lines
