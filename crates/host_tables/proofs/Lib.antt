pub mod Changes
pub mod Copies
pub mod Dropping
pub mod Nothing
