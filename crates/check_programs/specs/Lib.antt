pub mod Programs
pub mod Strings
pub mod Totals
