pub mod TextLemmas
pub mod VariableLemmas
