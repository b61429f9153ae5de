pub mod Converting
pub mod FirstTags
mod InCells
mod InLayouts
pub mod InOrder
pub mod KindsUnder
mod Laid
pub mod LaterTags
mod Lengths
mod Measured
mod MemberNames
mod MemberSteps
mod NextMember
pub mod Outermost
mod PlacedCells
mod Pointers
mod Reaches
mod Runs
pub mod Sameness
mod Spread
mod StillMeasured
mod StructBytes
mod StructCells
pub mod TwoParts
pub mod WrittenTags
