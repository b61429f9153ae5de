pub mod Classes
pub mod Births
pub mod Rooms
pub mod Counting
pub mod Living
pub mod StayingPages
pub mod Samples
