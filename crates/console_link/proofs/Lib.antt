pub mod LineFacts
mod LineSteps
mod Answered
mod TalkFacts
mod Quitting
pub mod Whole
