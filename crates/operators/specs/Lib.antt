-- What the contracts cite.
pub mod Code
pub mod Patterns
pub mod Messages
