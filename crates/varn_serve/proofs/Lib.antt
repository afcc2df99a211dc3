pub mod Ends
pub mod Counted
pub mod Carried
pub mod Crossing
