pub mod Keeping
pub mod Transcripts
pub mod Serving
pub mod Complete
