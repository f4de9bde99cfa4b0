-- A frame in portions.
pub mod Portions
