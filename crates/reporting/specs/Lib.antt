-- What is written of an input, and what the loop's steps promise.
pub mod Working
pub mod Reported
