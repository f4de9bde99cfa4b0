-- Rows of check octets: what is added to them, and the step of one symbol.
pub mod Rows
pub mod Working
