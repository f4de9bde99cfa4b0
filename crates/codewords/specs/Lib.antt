-- Words and codewords: what a reader must believe.
pub mod Words
-- The theory of decoding: what the laws, and contracts inside the decoder, speak of.
pub mod Polynomials
pub mod Locators
pub mod Errors
