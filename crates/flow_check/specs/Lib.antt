pub mod Declarations
pub mod Folded
pub mod Seen
pub mod Short
pub mod Standing
pub mod Suffixed
pub mod Switched
pub mod Within
