pub mod Blocks
pub mod Codes
pub mod Declarations
pub mod Falling
pub mod Members
