-- The lemmas.
pub mod Steps
pub mod Works
pub mod Lists
pub mod Elements
pub mod Named
