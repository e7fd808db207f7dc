-- The lemmas, each file after those that it uses.
pub mod Names
pub mod Framed
pub mod Asked
pub mod Ancestry
pub mod Meant
mod Examples
