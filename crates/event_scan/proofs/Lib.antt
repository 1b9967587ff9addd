pub mod Scanning
pub mod Follows
pub mod ScanFields
pub mod ScanReads
pub mod ScanBehind
pub mod ScanRoom
