pub mod Blocks
pub mod Gets
pub mod Puts
