pub mod Fronts
pub mod Values
pub mod Board
pub mod Steps
