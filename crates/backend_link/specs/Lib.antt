pub mod Replies
pub mod Exchanges
pub mod Said
pub mod Streams
pub mod WholeReplies
