pub mod Whys
