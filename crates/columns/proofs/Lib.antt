pub mod Apart
pub mod Appends
pub mod Lines
