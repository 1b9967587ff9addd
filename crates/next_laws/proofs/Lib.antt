mod Lists
mod Takes
mod Acts
pub mod Steps
