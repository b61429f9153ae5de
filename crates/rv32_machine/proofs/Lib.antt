pub mod Bytes
pub mod Moves
pub mod Leading
pub mod Pushing
pub mod Gliding
pub mod Limits
pub mod Asking
pub mod Served
pub mod Lacking
pub mod Starts
pub mod Stores
pub mod StackPlaces
pub mod Writes
pub mod LongerRuns
pub mod Modes
pub mod Stepping
pub mod Splices
pub mod Handed
mod SampleRuns
mod ImmediateSamples
mod ArithmeticSamples
mod ShiftSamples
mod ProductSamples
mod DivisionSamples
mod LoadSamples
mod StoreSamples
mod JumpSamples
mod BranchSamples
mod OffsetSamples
mod CallSamples
mod RequestSamples
mod WordSamples
