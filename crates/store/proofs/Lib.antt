-- The lemmas, each file after those that it uses.
pub mod Rooms
pub mod Reading
pub mod Splices
pub mod Putting
pub mod PolicyChanges
pub mod EntityChanges
pub mod SchemaChanges
pub mod AsItems
