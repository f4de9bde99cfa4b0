-- One word: what its decoding answers, and what the steps on the way promise each other.
pub mod Outcome
pub mod Working
pub mod Decision
