mod RequestFacts
mod TurnFacts
pub mod ReadingFacts
pub mod AnswerFacts
