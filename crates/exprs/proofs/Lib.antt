-- The lemmas.
pub mod Inside
pub mod Means
