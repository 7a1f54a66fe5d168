pub mod Clock
pub mod Held
pub mod Law
pub mod Pages
pub mod Refusals
pub mod Rule
pub mod States
pub mod Turn
