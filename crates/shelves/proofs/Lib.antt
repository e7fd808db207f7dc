-- The lemmas, each file after those that it uses.
pub mod Carried
pub mod Splits
pub mod Laid
pub mod Spotted
pub mod Walks
pub mod Halves
pub mod Tables
pub mod Offsets
