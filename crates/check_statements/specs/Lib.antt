pub mod Leaving
pub mod Plain
pub mod Switching
