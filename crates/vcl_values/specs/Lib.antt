pub mod Values
pub mod Operators
pub mod Readings
pub mod Replacements
pub mod Captured
pub mod Cuts
pub mod Pieces
pub mod ReadHere
