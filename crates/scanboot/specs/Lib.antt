pub mod Bounds
pub mod Packing
pub mod Taken
pub mod Version
