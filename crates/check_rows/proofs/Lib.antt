-- The laws of rows of check octets: what an octet adds to them, the table of all such sums, and the step of one symbol.
pub mod Columns
pub mod Steps
pub mod Tables
pub mod Settled
