-- What is refused, by which number, and in which order; and what the shared checks promise each other.
pub mod Order
pub mod Sizes
pub mod Numbers
pub mod Calls
pub mod Working
