pub mod Cuts
pub mod Numbers
pub mod Spans
pub mod Tokens
