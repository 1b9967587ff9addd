pub mod Pools
pub mod Region
pub mod Lending
