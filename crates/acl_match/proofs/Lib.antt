pub mod DecisionLemmas
pub mod SignLemmas
pub mod SoundnessLemmas
pub mod FirstClash
