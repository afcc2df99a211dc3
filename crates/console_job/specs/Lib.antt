pub mod Operating
pub mod Opening
