pub mod Relaxing
mod BareLines
mod BareNumbers
mod BareTemporaries
mod Bare
pub mod NoLabels
pub mod LabelsOnce
pub mod NoTargets
pub mod TargetsOnce
pub mod Shortening
