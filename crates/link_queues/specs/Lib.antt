pub mod Counted
pub mod Laws
pub mod Links
pub mod Queues
