pub mod Shelves
pub mod Asked
pub mod Found
pub mod Step
pub mod Framed
pub mod Answering
