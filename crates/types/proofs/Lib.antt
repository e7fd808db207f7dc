-- The lemmas, each file after those that it uses.
pub mod Walks
pub mod Rules
pub mod Frame
pub mod Finds
pub mod Joins
pub mod JoinRecords
pub mod Means
