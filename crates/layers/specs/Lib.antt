pub mod Divider
pub mod Piles
pub mod Quota
pub mod Sides
pub mod Limits
