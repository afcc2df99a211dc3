pub mod Members
pub mod Ends
pub mod Endings
pub mod Kept
pub mod Room
