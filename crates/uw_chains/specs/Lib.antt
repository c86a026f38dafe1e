pub mod Chains
pub mod ChainSteps
