pub mod Exits
pub mod Passed
pub mod Steps
pub mod Tables
pub mod Touches
pub mod Used
