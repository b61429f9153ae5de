pub mod Stripping
pub mod Listing
pub mod Laid
pub mod SpelledKinds
