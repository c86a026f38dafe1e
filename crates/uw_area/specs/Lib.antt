pub mod AreaWords
pub mod AreaKind
pub mod AreaViews
pub mod AreaSteps
