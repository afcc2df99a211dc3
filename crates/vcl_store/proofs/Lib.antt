pub mod Refusals
pub mod Items
pub mod Reader
pub mod BuiltIn
