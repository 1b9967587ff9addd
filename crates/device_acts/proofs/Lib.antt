pub mod Evictions
pub mod Few
pub mod Hosts
pub mod Members
pub mod Passing
pub mod Tasks
pub mod Waits
