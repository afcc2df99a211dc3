pub mod Joined
pub mod Refusals
pub mod BuiltIn
