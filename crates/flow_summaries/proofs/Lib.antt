pub mod Sooner
pub mod Effects
pub mod Passages
pub mod Names
pub mod Uses
pub mod Expressions
pub mod Exits
pub mod Loans
pub mod Scopes
pub mod Statements
mod SampleTrees
mod LoopSamples
mod LoanSamples
