pub mod Statuses
pub mod CommandLine
pub mod Texts
pub mod Outcomes
pub mod Drives
pub mod Checks
pub mod Loads
