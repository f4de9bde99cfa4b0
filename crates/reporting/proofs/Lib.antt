-- What the loop of the report has written, piece by piece, is the report.
pub mod Filled
pub mod Pieces
pub mod Settled
