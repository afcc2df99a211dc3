pub mod NameLemmas
pub mod IndexLemmas
pub mod HeadLemmas
pub mod MemberLemmas
pub mod DropLemmas
