-- What transmit and receive promise.
pub mod Outcome
