pub mod Items
pub mod Seeing
pub mod Statics
