pub mod Sessions
pub mod Asking
pub mod Clients
pub mod Outcomes
pub mod Loadings
mod Options
mod Texts
pub mod OneReplay
