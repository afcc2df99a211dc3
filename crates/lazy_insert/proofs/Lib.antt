pub mod Placing
pub mod Roomy
pub mod Inserts
pub mod Unseen
