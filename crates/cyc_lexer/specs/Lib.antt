pub mod Bytes
pub mod Spelling
pub mod Lexing
pub mod Places
pub mod Reading
pub mod Tokens
