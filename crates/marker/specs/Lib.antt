-- The marker: the wrong bits of its two forms at a place, and what its test and its search answer.
pub mod Place
pub mod Outcome
-- What contracts inside the search speak of.
pub mod Working
