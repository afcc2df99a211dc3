pub mod Signs
pub mod Blanks
pub mod Folding
pub mod Numbers
pub mod Durations
pub mod Quoted
pub mod Texts
pub mod Outcomes
