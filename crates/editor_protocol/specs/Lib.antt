pub mod Frames
pub mod Kinds
