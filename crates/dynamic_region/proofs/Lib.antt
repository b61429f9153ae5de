pub mod Placed
pub mod Unchanged
