pub mod Laws
pub mod ListingLaws
