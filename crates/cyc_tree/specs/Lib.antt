pub mod Tree
pub mod View
pub mod Places
pub mod Operands
pub mod Room
pub mod Depths
pub mod StoredNames
pub mod Stored
