pub mod Quiet
pub mod Granted
pub mod Named
pub mod Counted
pub mod Kept
pub mod Running
pub mod Exhausted
mod Samples
