pub mod Code
pub mod Counts
pub mod Ends
pub mod Found
pub mod Kinds
pub mod Sizes
