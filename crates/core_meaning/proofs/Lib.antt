pub mod Spots
pub mod Results
pub mod Wholes
mod LeaveSamples
