-- The laws of the marker.
pub mod Word
pub mod Forms
pub mod Searches
pub mod Sofar
pub mod Passing
pub mod Packed
pub mod OctetBits
pub mod OctetTable
pub mod Skipping
pub mod Settled
pub mod Complements
pub mod Before
pub mod Fakes
