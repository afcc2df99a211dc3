pub mod Rounds
pub mod Standing
pub mod Happened
pub mod Responses
pub mod Laws
