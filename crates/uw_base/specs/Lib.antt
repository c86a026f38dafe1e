pub mod Numbers
pub mod Variables
pub mod VariableSpans
pub mod Texts
