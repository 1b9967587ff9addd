pub mod Counts
pub mod Fronts
pub mod Statuses
pub mod Inputs
pub mod Checked
