pub mod Agreeing
pub mod Wholes
pub mod Fronts
pub mod Judging
pub mod Singles
