pub mod Parts
pub mod TextProbes
