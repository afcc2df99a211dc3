mod LengthFacts
mod Prefixes
mod ByteFacts
mod PlaceFacts
mod LineFacts
mod LivingFacts
mod TrailerFacts
mod StepFacts
pub mod AnswerFacts
mod EndFacts
pub mod FramingFacts
pub mod Fronts
pub mod LawFacts
pub mod FramedFacts
pub mod PlainFacts
