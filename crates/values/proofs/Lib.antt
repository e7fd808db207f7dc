-- The lemmas, each file after those that it uses.
pub mod Parts
pub mod Runs
pub mod Orders
pub mod Frame
pub mod Rising
pub mod OneMore
pub mod Made
pub mod Fields
pub mod Finds
pub mod Fill
pub mod Waits
pub mod Placed
pub mod Means
mod Examples
