pub mod Served
pub mod Joins
