pub mod Bans
pub mod Keys
pub mod Kept
pub mod Stands
