-- What the contracts cite.
pub mod Memory
pub mod Order
pub mod Held
pub mod Making
pub mod Stored
