pub mod Slots
pub mod Blocks
pub mod Calls
