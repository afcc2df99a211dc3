pub mod Members
pub mod Names
pub mod Indexes
pub mod Kept
