pub mod Steps
pub mod Journals
pub mod Faults
pub mod Findings
