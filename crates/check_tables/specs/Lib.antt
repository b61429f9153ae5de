pub mod Globals
pub mod Names
pub mod Structs
