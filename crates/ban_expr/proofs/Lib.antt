pub mod Joined
pub mod Sayings
pub mod Checks
pub mod Ones
pub mod Crossing
