pub mod Desk
pub mod Stock
pub mod Opening
pub mod Answers
