pub mod Tasks
pub mod Rounds
pub mod RoundSteps
