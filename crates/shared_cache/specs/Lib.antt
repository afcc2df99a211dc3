pub mod Sharing
pub mod Passes
pub mod Lurking
