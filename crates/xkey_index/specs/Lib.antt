pub mod Members
pub mod Handles
