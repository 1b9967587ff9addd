pub mod Asking
pub mod Answering
pub mod Flags
pub mod FlagsBack
