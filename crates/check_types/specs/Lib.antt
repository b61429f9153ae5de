pub mod Arguments
pub mod Settling
pub mod Reading
pub mod Written
pub mod Parameters
pub mod Tagged
pub mod Naming
pub mod Handles
