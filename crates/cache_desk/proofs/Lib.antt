pub mod Passes
pub mod Choosing
pub mod Replies
pub mod Crossing
