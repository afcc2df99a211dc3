pub mod Results
pub mod Beside
pub mod Findings
pub mod Reserves
pub mod Joins
pub mod Steps
pub mod Refusals
pub mod Crossing
