-- The definitions that the contract of `word_at` cites.
pub mod Words
