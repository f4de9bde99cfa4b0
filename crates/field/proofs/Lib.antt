-- The laws of the field.
pub mod Below
pub mod Sum
pub mod Changes
pub mod Product
pub mod Powers
pub mod Conversions
pub mod Turns
pub mod Settled
