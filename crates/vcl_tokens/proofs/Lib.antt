pub mod LongestLemmas
pub mod MarkLemmas
pub mod ReadingLemmas
pub mod Spelled
pub mod StepLemmas
