pub mod Arriving
pub mod Shutting
