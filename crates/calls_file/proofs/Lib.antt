-- Lemmas of this crate.
pub mod Placed
