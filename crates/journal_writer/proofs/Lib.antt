pub mod Fronts
pub mod Segments
pub mod Steps
