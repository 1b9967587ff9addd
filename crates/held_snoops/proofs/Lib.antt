pub mod Marks
pub mod Answering
