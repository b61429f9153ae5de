pub mod Placed
pub mod Placing
pub mod Holding
pub mod Sizes
pub mod Chars
