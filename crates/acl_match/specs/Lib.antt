pub mod Acl
pub mod Address
pub mod Signs
