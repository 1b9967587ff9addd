pub mod Orders
pub mod Links
