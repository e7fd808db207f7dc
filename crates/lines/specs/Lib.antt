-- The definitions that the contracts cite.
pub mod Quotes
pub mod Answers
pub mod Parts
pub mod Results
pub mod Failures
