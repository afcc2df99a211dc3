pub mod Fetches
pub mod Standing
pub mod Laws
