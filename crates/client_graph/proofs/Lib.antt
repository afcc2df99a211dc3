pub mod Others
pub mod Words
pub mod Jars
