-- What the report says of a piece of its input, and of the whole.
pub mod Pieces
pub mod Report
