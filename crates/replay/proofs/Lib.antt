pub mod Leading
pub mod Calm
pub mod Dues
pub mod Heards
pub mod Runs
pub mod Taking
pub mod Replies
mod Telling
mod Resting
pub mod Asking
pub mod Sending
pub mod Alike
pub mod Turns
pub mod Hearing
pub mod Yielded
pub mod Playing
pub mod Ending
pub mod Unique
pub mod OneWay
pub mod Building
pub mod Wholes
pub mod Instructions
pub mod Consoles
pub mod Sessions
pub mod Sweeping
