-- The laws of the chains, and the conditions of acceptance for the whole.
pub mod Inversion
pub mod Opening
pub mod Transmissions
pub mod Receptions
pub mod Stages
pub mod Settled
pub mod Complements
pub mod Conditions
pub mod Bursts
pub mod Before
pub mod OnesBlocks
