pub mod ByteWords
pub mod Splices
pub mod Planning
pub mod Standing
