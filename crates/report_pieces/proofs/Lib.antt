-- The laws of the report's pieces, and of the whole report.
pub mod Texts
pub mod Settled
pub mod Report
pub mod Printed
