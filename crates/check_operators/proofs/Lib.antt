mod Applying
mod Assigning
mod Following
mod Handling
mod Indexing
mod KindsOfTypes
mod MembersFound
pub mod Renamed
