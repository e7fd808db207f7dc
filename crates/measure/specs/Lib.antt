-- What the contracts cite.
pub mod Lengths
pub mod Long
