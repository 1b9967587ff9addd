pub mod Words
pub mod Events
pub mod Tallies
pub mod Counting
pub mod Traces
pub mod Laws
