-- The convolutional coder: what it sends, what a call answers, and how the private functions go.
pub mod Coder
pub mod Outcome
pub mod Working
pub mod GroupWorking
