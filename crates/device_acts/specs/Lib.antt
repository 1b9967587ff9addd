pub mod Placed
pub mod Searching
pub mod Sections
