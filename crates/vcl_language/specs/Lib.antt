pub mod Attributes
pub mod Functions
pub mod Modules
pub mod Names
pub mod Scopes
pub mod Tables
pub mod Variables
pub mod Words
