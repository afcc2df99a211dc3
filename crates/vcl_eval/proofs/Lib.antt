pub mod Depths
pub mod Rises
pub mod Steps
pub mod Sure
pub mod Turns
