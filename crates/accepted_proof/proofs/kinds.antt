pub mod Perhaps
pub mod Phrases
pub mod Expressions
pub mod Types
pub mod Tables
pub mod Programs
