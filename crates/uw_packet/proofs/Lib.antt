pub mod Arrays
pub mod BlockLaws
pub mod Fronts
