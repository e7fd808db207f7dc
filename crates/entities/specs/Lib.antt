-- What the contracts cite.
pub mod Rows
pub mod Code
pub mod Meaning
pub mod Props
pub mod View
