pub mod HandleLemmas
pub mod MemberLemmas
pub mod DropLemmas
