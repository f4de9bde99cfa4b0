-- The laws of the decoder of blocks, and the conditions of acceptance.
pub mod StandingChecks
pub mod Gathering
pub mod WordRepairs
pub mod Deliveries
pub mod Deliverable
pub mod DecodeSettled
pub mod Conditions
pub mod Fakes
pub mod SalvagedWords
pub mod ChangeLists
pub mod ListTells
pub mod Salvages
pub mod SalvageSettled
pub mod SalvageConditions
