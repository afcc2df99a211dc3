mod Counting
mod Lives
mod Runs
