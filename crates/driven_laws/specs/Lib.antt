pub mod Scripts
pub mod Reached
pub mod Laws
