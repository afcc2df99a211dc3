pub mod Opened
pub mod Finished
pub mod Pages
pub mod Sent
