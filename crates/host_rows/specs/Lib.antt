pub mod Answers
pub mod Going
pub mod Messages
pub mod Rows
