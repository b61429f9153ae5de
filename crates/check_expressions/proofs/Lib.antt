pub mod Joining
pub mod Forms
pub mod SuffixForms
pub mod Makings
pub mod Within
