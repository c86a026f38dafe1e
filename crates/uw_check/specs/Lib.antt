pub mod Checking
pub mod Reports
