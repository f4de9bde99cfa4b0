-- Maximum-likelihood decoding at rate 1/2: the input that is owed, what a call answers, and how the private functions go.
pub mod Likeliest
pub mod Outcome
pub mod Working
