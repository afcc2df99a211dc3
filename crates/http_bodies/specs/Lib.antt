pub mod Framings
pub mod Bodies
pub mod Rests
pub mod Reading
pub mod Places
pub mod Answers
pub mod Framed
