pub mod Prefixes
pub mod Numerals
pub mod Pieces
pub mod Splits
pub mod Results
