pub mod HostLaws
pub mod Writes
pub mod PlaceLaws
