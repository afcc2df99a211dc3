pub mod Fields
pub mod Operators
pub mod Reading
pub mod Plans
pub mod Searches
