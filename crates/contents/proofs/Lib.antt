pub mod Columns
pub mod Facts
pub mod InUse
mod Keeping
mod Outcomes
mod Prints
mod Searches
mod Unique
