pub mod Dialers
pub mod Hosts
