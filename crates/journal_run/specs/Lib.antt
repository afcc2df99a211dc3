pub mod Spans
pub mod Gains
