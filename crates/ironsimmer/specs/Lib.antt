-- What the exported calls answer.
pub mod Exported
