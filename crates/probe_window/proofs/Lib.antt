pub mod AllResults
pub mod FirstNamed
