mod Falling
mod FallingBlocks
pub mod Found
pub mod Lists
mod Patterns
mod PatternsSaid
mod AclLists
