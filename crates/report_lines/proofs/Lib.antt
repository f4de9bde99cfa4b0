-- The laws of texts and numbers.
pub mod Growth
pub mod Numerals
pub mod Settled
