pub mod Lowering
pub mod OneWant
pub mod Orders
pub mod Going
pub mod Subroutines
pub mod Closing
