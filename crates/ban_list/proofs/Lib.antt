pub mod KeyLemmas
pub mod LineLemmas
pub mod CountLemmas
pub mod IssueLemmas
pub mod CutLemmas
pub mod NeededLemmas
pub mod StandLemmas
