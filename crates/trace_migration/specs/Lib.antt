pub mod Outcomes
pub mod Items
pub mod Walks
pub mod Heads
pub mod Migrations
pub mod Laws
