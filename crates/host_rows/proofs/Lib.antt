pub mod Deciding
pub mod Filling
pub mod Passing
pub mod Payloads
pub mod Planned
