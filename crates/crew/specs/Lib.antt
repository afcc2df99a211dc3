pub mod Places
pub mod Calls
pub mod Parts
pub mod Opening
pub mod Hiring
pub mod Leaving
pub mod Besides
pub mod Running
