pub mod Blocks
pub mod Clauses
pub mod Exchanging
pub mod Repeated
