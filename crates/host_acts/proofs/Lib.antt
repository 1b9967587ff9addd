pub mod ActCounts
pub mod Acting
