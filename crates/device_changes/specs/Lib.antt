pub mod FilterLines
pub mod Paying
pub mod Acting
pub mod Passing
