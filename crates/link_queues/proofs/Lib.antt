mod Joined
mod Places
mod Picked
pub mod Parts
pub mod Tables
pub mod Flights
mod Numbers
pub mod Moves
pub mod Going
mod Sums
