-- What the contracts cite.
pub mod Lists
pub mod Entries
pub mod Read
pub mod Schemas
