pub mod Keeping
pub mod Linking
pub mod Matching
mod Ruled
