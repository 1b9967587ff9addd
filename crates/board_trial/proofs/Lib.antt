pub mod Closings
pub mod Shown
pub mod Stages
