pub mod Coherent
