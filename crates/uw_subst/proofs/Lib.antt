pub mod Positions
pub mod DateLemmas
pub mod PieceLemmas
pub mod FormLemmas
pub mod PartLemmas
pub mod PlaceLemmas
pub mod FillLemmas
