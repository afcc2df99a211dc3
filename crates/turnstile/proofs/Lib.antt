pub mod Places
mod Moves
mod Tickets
mod Turning
mod Splitting
mod Joining
