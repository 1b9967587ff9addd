pub mod Begun
pub mod Commits
pub mod OwnLaws
pub mod Laws
