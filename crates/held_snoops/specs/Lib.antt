pub mod Marks
pub mod Held
