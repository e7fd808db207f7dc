-- Lemmas of this crate, each file after those that it uses.
mod Lists
