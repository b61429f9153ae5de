pub mod Leaving
pub mod Passages
pub mod Sequences
pub mod Turns
