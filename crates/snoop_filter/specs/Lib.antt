pub mod Rows
pub mod Changes
pub mod Filters
pub mod Victims
pub mod Places
pub mod Moves
pub mod Kept
