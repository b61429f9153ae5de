pub mod Changes
pub mod Globals
pub mod Knows
pub mod Linked
pub mod Locals
pub mod Means
pub mod Matching
