pub mod Zero
pub mod Taking
pub mod Row
pub mod Stars
pub mod Steps
