pub mod Raw
pub mod Lending
pub mod Block
pub mod Seated
