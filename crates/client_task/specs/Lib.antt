pub mod BanWords
pub mod Commands
pub mod Rounds
pub mod Standing
pub mod Laws
pub mod Tokens
