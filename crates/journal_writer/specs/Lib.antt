pub mod Segments
pub mod Pieces
