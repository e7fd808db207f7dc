-- Lemmas of this crate.
pub mod Joins
pub mod Firsts
pub mod Lists
pub mod Lines
pub mod Outcomes
