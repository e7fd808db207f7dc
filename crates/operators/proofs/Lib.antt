-- The lemmas, each file after those that it uses.
pub mod Operands
pub mod Integers
pub mod Patterns
mod Examples
