pub mod Rows
pub mod Keeping
pub mod Visits
pub mod InMemory
pub mod Folders
pub mod FolderSteps
