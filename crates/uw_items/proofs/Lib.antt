pub mod Held
pub mod FreeItems
