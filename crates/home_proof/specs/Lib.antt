pub mod Names
pub mod Defaults
pub mod Arguments
pub mod Numbered
pub mod Laws
