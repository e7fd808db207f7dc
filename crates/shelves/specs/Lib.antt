-- What the contracts cite.
pub mod Items
pub mod Spots
pub mod Moves
pub mod Mapped
