pub mod Statuses
pub mod Words
pub mod Texts
pub mod Run
pub mod Load
pub mod Jobs
pub mod Laws
