pub mod Frames
pub mod Passing
pub mod Arguments
pub mod Pointer
pub mod Prologue
pub mod Begun
pub mod Taking
pub mod Parameters
pub mod Entering
mod StartSamples
pub mod Jumping
pub mod Results
pub mod Leaving
pub mod Ending
pub mod Going
pub mod Calls
pub mod Bodies
