pub mod Buffered
pub mod Lines
pub mod Region
pub mod Filled
