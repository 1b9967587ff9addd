pub mod First
pub mod Host
pub mod Device
pub mod Others
pub mod AcceptedRuns
