pub mod OneTree
pub mod Rows
pub mod OneFault
pub mod Mentioned
pub mod Shallow
pub mod OneOutcome
