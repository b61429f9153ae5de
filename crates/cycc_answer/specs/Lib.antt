pub mod Statuses
pub mod Answers
pub mod Commands
pub mod Devices
