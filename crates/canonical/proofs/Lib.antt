pub mod Lists
pub mod Keys
pub mod Parts
pub mod Elements
pub mod Whole
