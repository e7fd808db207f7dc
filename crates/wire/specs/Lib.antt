pub mod Read
pub mod Tags
pub mod Grammar
pub mod Sizes
pub mod Reading
pub mod Answered
