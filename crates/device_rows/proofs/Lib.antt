pub mod Hosts
pub mod Placed
