pub mod Counted
pub mod Driven
