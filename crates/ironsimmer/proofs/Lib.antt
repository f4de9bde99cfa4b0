-- What each exported call answers by the answer of the call beneath, that it is settled, and what a refusal leaves as it was.
pub mod Numbered
pub mod Running
pub mod Settled
pub mod Kept
