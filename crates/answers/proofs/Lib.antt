-- Lemmas of this crate; the engine builds answers of several pieces with them.
pub mod Writes
pub mod Items
