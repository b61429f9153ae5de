pub mod UnionSizes
pub mod Structs
pub mod Sizes
pub mod memory
pub mod Runs
pub mod values
pub mod expressions
pub mod Texts
pub mod statements
pub mod regions
pub mod Functions
pub mod HeapStrings
pub mod Constants
pub mod Programs
pub mod bounds
mod samples
