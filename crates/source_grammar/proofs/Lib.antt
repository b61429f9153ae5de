pub mod Operands
pub mod Parts
pub mod Shorter
pub mod ItemTokens
pub mod Rooms
