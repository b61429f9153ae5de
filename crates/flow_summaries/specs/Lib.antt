pub mod Effects
pub mod Passages
pub mod Uses
pub mod Expressions
pub mod Exits
pub mod Statements
pub mod Laws
