pub mod Errors
mod HeadFacts
mod BodyFacts
pub mod LongerHeads
pub mod LongerBodies
