pub mod Format
pub mod Refusal
pub mod Fault
