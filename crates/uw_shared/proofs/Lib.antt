pub mod Places
pub mod Turns
pub mod CacheTurns
pub mod AreaTurns
pub mod Beginnings
