-- The worked examples.
pub mod Table
