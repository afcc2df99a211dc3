mod BehindFacts
mod ConversedFacts
pub mod SaidHeads
mod SaidBodies
pub mod SaidFacts
mod WholeHeads
pub mod OneReply
