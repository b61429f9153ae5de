pub mod Bodies
pub mod Heads
pub mod Reading
pub mod Used
