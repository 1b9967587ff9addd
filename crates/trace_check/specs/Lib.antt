pub mod Items
pub mod Judged
pub mod Laws
pub mod Verdicts
