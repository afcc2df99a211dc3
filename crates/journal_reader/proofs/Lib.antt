pub mod Counted
pub mod Firsts
pub mod Going
pub mod Back
pub mod Unique
pub mod Only
pub mod Agreeing
pub mod Feeds
