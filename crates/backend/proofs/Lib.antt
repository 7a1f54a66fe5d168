pub mod Accounts
pub mod Entries
pub mod Evictions
pub mod Keeping
pub mod Moving
pub mod Victims
