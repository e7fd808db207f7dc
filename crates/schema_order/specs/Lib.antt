pub mod Places
pub mod Schemas
