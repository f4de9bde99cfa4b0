-- The burst figure: bursts within it are corrected, and longer ones can lose the frame.
pub mod ZeroBlocks
pub mod Bursts
pub mod AlteredBlocks
pub mod LongerBursts
