pub mod Directives
pub mod Timing
pub mod Validators
pub mod Merging
