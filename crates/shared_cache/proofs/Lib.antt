pub mod Numbers
mod Calling
mod Turned
