pub mod SmallSteps
pub mod TwinLemmas
