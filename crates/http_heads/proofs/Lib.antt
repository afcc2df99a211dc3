mod LineLemmas
pub mod HeadLines
mod Fronts
pub mod HeadFacts
mod RequestFacts
mod ResponseFacts
mod PrintFacts
pub mod SentFacts
mod PartFacts
