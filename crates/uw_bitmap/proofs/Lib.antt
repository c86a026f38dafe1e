pub mod Searches
pub mod WordBits
pub mod Blocks
pub mod Steps
pub mod Runs
