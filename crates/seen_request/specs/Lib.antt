pub mod Targets
pub mod Sites
pub mod Seen
