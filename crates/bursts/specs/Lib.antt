-- Bursts, and what it is to correct one.
pub mod Bursts
