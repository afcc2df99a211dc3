pub mod Arenas
pub mod Expressions
pub mod Names
pub mod Sights
pub mod Statements
