pub mod Single
pub mod Legal
