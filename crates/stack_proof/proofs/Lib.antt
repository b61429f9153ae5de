pub mod Runs
mod FitsSamples
pub mod Suffices
