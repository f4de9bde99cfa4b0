-- The lines of a report.
pub mod Lines
pub mod Text
pub mod Working
