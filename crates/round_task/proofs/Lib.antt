pub mod OneWant
pub mod Alike
pub mod Settling
pub mod Clients
pub mod Wholes
pub mod Vcls
pub mod Fronts
