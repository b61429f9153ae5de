pub mod Comments
pub mod Layout
