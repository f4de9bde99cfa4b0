-- The laws of interleaved words and of rows of check octets; encode and its two steps are settled.
pub mod GeneratorRoots
pub mod StepTables
pub mod Interleaving
pub mod CheckRows
pub mod RowTurns
pub mod CodedBlocks
pub mod Settled
pub mod StepsSettled
