pub mod Places
pub mod Lefts
pub mod TaskLists
