pub mod Bench
pub mod BenchFiles
pub mod MoreBench
pub mod ListingBench
pub mod NameBench
pub mod OrderBench
