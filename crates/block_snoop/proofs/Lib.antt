pub mod Hosts
pub mod Left
