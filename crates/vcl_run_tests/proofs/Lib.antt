mod Following
mod Tables
