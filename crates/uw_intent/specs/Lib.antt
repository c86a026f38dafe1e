pub mod Stores
pub mod RedoRecord
pub mod CursorSteps
pub mod Standing
pub mod RightWrites
pub mod World
pub mod CallTurns
pub mod OneTurn
