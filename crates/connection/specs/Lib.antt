pub mod Requests
pub mod Reading
pub mod Serving
pub mod Complete
