pub mod Aliases
pub mod Contexts
pub mod Declaring
pub mod Operands
pub mod Switching
