pub mod Held
pub mod Cover
pub mod Search
pub mod Row
pub mod Steps
pub mod Across
