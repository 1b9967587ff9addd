pub mod Ascending
mod NamesAdded
pub mod SameNames
pub mod SameMessages
pub mod SameEvents
pub mod Decided
mod SameSends
