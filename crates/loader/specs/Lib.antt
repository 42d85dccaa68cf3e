pub mod Placing
pub mod Loading
pub mod Addresses
