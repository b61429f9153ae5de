pub mod Words
pub mod Devices
pub mod Counting
pub mod Faults
pub mod Events
