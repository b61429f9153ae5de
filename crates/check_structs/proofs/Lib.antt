pub mod FirstKnown
pub mod HeadTypes
pub mod Judging
pub mod Members
pub mod NextNames
pub mod NextTables
pub mod ReadParameters
pub mod Standing
