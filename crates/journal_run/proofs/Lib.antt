pub mod Counts
mod Stints
mod Texts
mod Cut
