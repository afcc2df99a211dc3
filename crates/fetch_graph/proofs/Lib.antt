mod Others
pub mod Jars
