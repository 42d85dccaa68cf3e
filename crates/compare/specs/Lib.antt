pub mod Same
pub mod Checking
pub mod Matching
pub mod Scanning
pub mod Stored
