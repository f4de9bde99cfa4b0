-- The numbers that stand in for data, and what the calls that print leave in the buffers.
pub mod Draws
pub mod Calls
