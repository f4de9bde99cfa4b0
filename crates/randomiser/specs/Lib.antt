-- The pseudo-random sequence, and what the calls promise.
pub mod Sequence
pub mod Outcome
