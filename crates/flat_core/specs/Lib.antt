pub mod StoredObject
pub mod Room
pub mod Scans
pub mod Banning
pub mod Purging
pub mod Shelf
pub mod Listing
pub mod Rests
