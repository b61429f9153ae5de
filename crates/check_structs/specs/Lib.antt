pub mod FirstKnown
pub mod Members
pub mod Parameters
pub mod Tags
