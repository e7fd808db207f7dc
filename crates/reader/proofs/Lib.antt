pub mod Along
pub mod Trees
pub mod Whole
pub mod Stood
pub mod Steps
