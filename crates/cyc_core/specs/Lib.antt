pub mod Counts
pub mod Trees
