pub mod Histories
pub mod Seats
pub mod Steps
pub mod Views
