pub mod Blocks
pub mod States
pub mod StatesLemmas
