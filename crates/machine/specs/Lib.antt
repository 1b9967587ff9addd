pub mod Going
pub mod Offers
pub mod Stands
pub mod Steps
