pub mod Waiting
pub mod Changing
pub mod Crediting
pub mod Tasks
