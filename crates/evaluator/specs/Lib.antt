-- What the contracts cite.
pub mod Evaluated
pub mod Running
