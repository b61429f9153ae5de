pub mod Chains
pub mod Headers
pub mod Pool
pub mod Sound
pub mod Steps
pub mod Runs
pub mod Touches
pub mod Calls
