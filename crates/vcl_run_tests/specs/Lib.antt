pub mod Following
pub mod Runnable
