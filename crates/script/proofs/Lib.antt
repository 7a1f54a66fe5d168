pub mod Exact
pub mod Fields
pub mod Glued
pub mod Rows
