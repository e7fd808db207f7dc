pub mod Copied
pub mod Writing
pub mod Placed
pub mod Carried
pub mod Keys
