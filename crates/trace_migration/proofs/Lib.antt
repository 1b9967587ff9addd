pub mod Parts
pub mod Beginnings
pub mod Fronts
pub mod Walked
pub mod Surveyed
pub mod Events
pub mod Wider
pub mod Migrations
