pub mod Pushing
pub mod Lining
pub mod GoneOn
pub mod Finishing
pub mod Pieces
