-- The laws of the sequence, and the theorems about the calls.
pub mod Registers
pub mod Turns
pub mod Theorems
pub mod Settled
