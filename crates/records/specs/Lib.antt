pub mod Records
pub mod Meeting
pub mod Counting
pub mod Walking
