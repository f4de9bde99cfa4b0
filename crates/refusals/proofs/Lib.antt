-- The laws of the orders of checks.
pub mod Orders
pub mod Legal
pub mod Verdicts
pub mod Settled
