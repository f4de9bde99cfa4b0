-- The laws of a frame in portions.
pub mod PortionSteps
pub mod Portions
