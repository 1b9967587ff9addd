pub mod Lists
pub mod Rows
pub mod Placing
pub mod Seen
