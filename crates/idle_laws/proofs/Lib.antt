mod Lists
mod Keeping
mod Idle
