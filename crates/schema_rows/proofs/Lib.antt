-- The lemmas, each file after those that it uses.
pub mod Steps
pub mod Places
pub mod Means
