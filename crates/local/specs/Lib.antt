pub mod Local
pub mod Making
pub mod Places
pub mod Kept
