pub mod TakingLemmas
pub mod AnsweringLemmas
pub mod ServingLemmas
