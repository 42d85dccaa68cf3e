pub mod Text
pub mod Listing
pub mod Output
pub mod Put
pub mod Handed
