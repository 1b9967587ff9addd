pub mod Agent
pub mod Kept
pub mod Operating
