-- The definitions that the contracts cite.
pub mod Code
pub mod Put
