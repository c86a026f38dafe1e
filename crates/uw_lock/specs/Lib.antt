pub mod LockRule
pub mod LockSteps
