pub mod Parts
pub mod Regions
pub mod AskRuns
pub mod BeginningSteps
