pub mod Homes
pub mod Saving
pub mod Homed
pub mod HomeWords
pub mod SavedFew
mod HomeSamples
mod StraightSamples
pub mod Locals
pub mod Nests
pub mod HomeLocals
pub mod HomeOperations
pub mod HomeResults
pub mod Fine
pub mod FineHomes
