-- What the contracts cite.
pub mod Heads
pub mod Stored
pub mod Meaning
pub mod Asked
