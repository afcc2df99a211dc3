pub mod Settling
pub mod Flowing
pub mod Taping
pub mod Gaining
