pub mod Tables
mod Standard
mod Tags
