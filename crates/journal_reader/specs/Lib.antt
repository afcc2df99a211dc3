pub mod Fronts
pub mod Reading
pub mod Refusals
pub mod Histories
