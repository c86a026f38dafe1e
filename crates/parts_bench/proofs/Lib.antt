pub mod Firsts
pub mod Stored
