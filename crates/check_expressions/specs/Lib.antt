pub mod Within
pub mod Goals
pub mod Joined
pub mod Suffixes
