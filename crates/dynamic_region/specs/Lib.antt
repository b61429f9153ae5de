pub mod Keyed
pub mod Calls
pub mod Tagged
