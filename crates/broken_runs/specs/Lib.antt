pub mod FirstRules
pub mod HostRules
pub mod DeviceRules
pub mod NotRuns
pub mod Accepted
