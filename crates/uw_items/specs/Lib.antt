pub mod Items
pub mod FreeList
