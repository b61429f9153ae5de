pub mod Agreeing
pub mod Beginning
pub mod Carried
