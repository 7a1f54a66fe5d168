pub mod Cursors
pub mod Lines
pub mod Reading
pub mod Rows
