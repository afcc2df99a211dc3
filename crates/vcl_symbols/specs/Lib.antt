pub mod Names
pub mod Calls
pub mod Circles
pub mod Visits
pub mod Known
