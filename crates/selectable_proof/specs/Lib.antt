pub mod Naming
pub mod Laws
