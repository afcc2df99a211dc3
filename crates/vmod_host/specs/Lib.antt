pub mod Stored
pub mod Integers
pub mod Jar
pub mod JarText
pub mod JarMeanings
pub mod Meanings
