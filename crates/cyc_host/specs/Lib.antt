pub mod Failures
pub mod Transfers
pub mod Hosted
pub mod Watched
