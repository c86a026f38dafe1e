mod PatternLemmas
mod WeightLemmas
pub mod ArgumentLemmas
pub mod KeyLemmas
pub mod CompileLemmas
pub mod LabelLemmas
pub mod RefusalLemmas
pub mod LineLemmas
pub mod TableLemmas
pub mod LawLemmas
pub mod PartLemmas
