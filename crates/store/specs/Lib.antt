-- What the contracts cite.
pub mod Sections
pub mod Places
pub mod Changes
pub mod Trees
