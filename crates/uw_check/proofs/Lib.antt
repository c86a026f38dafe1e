pub mod CheckLemmas
pub mod ReportLemmas
