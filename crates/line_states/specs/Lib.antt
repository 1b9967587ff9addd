pub mod Stages
pub mod Opens
