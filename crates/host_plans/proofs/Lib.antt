pub mod Spares
pub mod PlansAnswer
pub mod Holding
