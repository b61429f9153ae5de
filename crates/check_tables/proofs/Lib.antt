pub mod GlobalTypes
pub mod Globals
pub mod ItemNames
pub mod Items
pub mod Scopes
pub mod TagItems
pub mod TagTables
pub mod Texts
