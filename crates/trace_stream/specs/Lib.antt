pub mod Buffers
pub mod Writing
pub mod Items
pub mod Readings
pub mod Runs
pub mod Laws
