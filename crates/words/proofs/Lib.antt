-- What other crates' proofs take from here.
pub mod Round
