pub mod Texts
pub mod Refusals
pub mod Refused
pub mod Outcome
pub mod WatchedRun
pub mod Evaluated
pub mod Printed
pub mod Stack
