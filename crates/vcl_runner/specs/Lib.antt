pub mod Standing
pub mod Sure
pub mod Targets
