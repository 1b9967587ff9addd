pub mod Summaries
pub mod Outcomes
pub mod Driver
pub mod Picks
pub mod Schedules
pub mod Outputs
