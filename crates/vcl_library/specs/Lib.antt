pub mod Functions
pub mod Programs
pub mod Backends
pub mod Waiting
pub mod Meaning
pub mod OneMeaning
