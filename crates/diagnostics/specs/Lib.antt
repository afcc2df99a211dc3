pub mod Helping
pub mod Places
