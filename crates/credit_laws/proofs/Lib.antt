pub mod Counting
pub mod CreditMessages
pub mod Returns
pub mod Buffering
pub mod Balance
pub mod Laws
