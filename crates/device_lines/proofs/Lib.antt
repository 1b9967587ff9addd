pub mod Sums
pub mod Regions
pub mod Removing
pub mod Serving
pub mod Opened
