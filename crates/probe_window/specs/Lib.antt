pub mod Windows
pub mod Boards
