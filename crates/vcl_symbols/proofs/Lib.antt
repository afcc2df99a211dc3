pub mod NameLemmas
pub mod RowLemmas
pub mod VisitLemmas
pub mod SearchLemmas
pub mod CircleLemmas
