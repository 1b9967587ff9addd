pub mod Items
pub mod Viewing
pub mod Laws
