pub mod Passed
pub mod Asked
pub mod Received
pub mod Timed
pub mod Stored
pub mod Sent
