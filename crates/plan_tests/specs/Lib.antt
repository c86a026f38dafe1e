pub mod SmallSteps
pub mod Twins
