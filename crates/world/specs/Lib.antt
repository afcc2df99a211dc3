pub mod Files
pub mod Keeping
pub mod Awaiting
pub mod ListenerMemory
pub mod WorldMemory
