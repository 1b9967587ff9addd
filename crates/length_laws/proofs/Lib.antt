pub mod Short
pub mod Small
