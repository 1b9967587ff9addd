pub mod Agent
pub mod Room
pub mod Decisions
