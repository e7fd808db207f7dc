-- What the contracts cite.
pub mod Held
pub mod Matching
pub mod Joining
pub mod Stored
pub mod Found
pub mod Once
