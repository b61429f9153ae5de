pub mod Earliest
pub mod Shortened
pub mod Telling
