pub mod Converted
pub mod Enclosings
pub mod Fixings
pub mod Fitted
pub mod Held
pub mod Nulls
pub mod Targets
pub mod Unions
