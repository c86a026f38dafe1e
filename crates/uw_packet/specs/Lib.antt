pub mod Packet
pub mod Blocks
pub mod Reads
pub mod BlockReads
pub mod PacketFront
pub mod BlockSteps
