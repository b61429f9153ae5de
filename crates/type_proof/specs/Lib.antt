pub mod Flat
pub mod Members
pub mod Judged
pub mod Entries
pub mod Structs
pub mod Programs
