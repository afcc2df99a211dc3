pub mod ChoiceLemmas
pub mod ChoiceValues
pub mod RoundLemmas
