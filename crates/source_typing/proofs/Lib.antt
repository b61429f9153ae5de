pub mod Inversion
pub mod Meeting
pub mod Entries
pub mod Converting
pub mod Parts
pub mod PlacesFit
pub mod OperatorsFit
pub mod CallsFit
pub mod RegionNames
pub mod NamedBelow
pub mod SameTags
mod samples
