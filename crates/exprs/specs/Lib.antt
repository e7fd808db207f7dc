-- What the contracts cite.
pub mod Heads
pub mod Stored
