pub mod Busy
pub mod Caches
