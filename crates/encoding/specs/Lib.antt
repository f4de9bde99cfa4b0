-- Blocks of interleaved words, rows of check octets, what encode promises, and what it does on the way.
pub mod Blocks
pub mod Rows
pub mod Outcome
pub mod Working
pub mod Turns
