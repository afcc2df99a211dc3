pub mod MemberLemmas
pub mod EndLemmas
pub mod KeptLemmas
pub mod AgainLemmas
pub mod EndingLemmas
pub mod EndingsLemmas
pub mod RoomLemmas
pub mod DropLemmas
