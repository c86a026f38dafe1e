pub mod Places
pub mod Joined
pub mod Departed
pub mod Puts
pub mod Sought
pub mod OneChain
