pub mod Calls
pub mod Fingerprint
pub mod Records
pub mod View
pub mod Whole
