pub mod LawLemmas
pub mod RoundLemmas
pub mod RowsBehind
pub mod TurnLemmas
