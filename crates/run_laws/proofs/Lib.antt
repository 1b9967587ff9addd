pub mod Runs
pub mod Numbers
pub mod InOrder
pub mod OwnEvents
