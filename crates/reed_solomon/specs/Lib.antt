-- What decode and salvage promise, and what they do on the way.
pub mod Outcome
pub mod Changes
pub mod Salvaging
pub mod DecoderWorking
pub mod SalvageWorking
