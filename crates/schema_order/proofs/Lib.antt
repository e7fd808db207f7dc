pub mod Steps
pub mod Parts
pub mod Items
pub mod Codes
pub mod Lookups
pub mod Opened
pub mod Forms
pub mod Whole
