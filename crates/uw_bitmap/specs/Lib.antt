pub mod Bits
pub mod SearchSteps
