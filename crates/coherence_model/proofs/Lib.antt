pub mod Allowed
pub mod OwnRuns
