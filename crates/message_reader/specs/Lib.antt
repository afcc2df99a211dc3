pub mod Causes
pub mod Inputs
pub mod HeadsTold
pub mod BodiesTold
pub mod Extents
