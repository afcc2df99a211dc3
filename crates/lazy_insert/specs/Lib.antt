pub mod Putting
pub mod Inserted
