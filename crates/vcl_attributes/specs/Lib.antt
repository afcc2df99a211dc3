pub mod Readers
pub mod Address
pub mod WindowNumbers
pub mod BackendLimits
pub mod Probes
