pub mod Shelf
pub mod Rests
