-- The field, and the two ways to write a symbol.
pub mod Field
pub mod Line
