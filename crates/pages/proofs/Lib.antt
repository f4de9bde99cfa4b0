-- The laws of the numbers that stand in for data.
pub mod Settled
pub mod Turns
