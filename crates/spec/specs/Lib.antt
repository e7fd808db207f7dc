-- The definitions, in the order in which they are best read.
pub mod Basics
pub mod Values
pub mod Exprs
pub mod Evaluate
pub mod Policies
pub mod Types
pub mod Typecheck
pub mod Validate
pub mod Calls
pub mod Bytes
pub mod Promises
pub mod TwoDeeds
