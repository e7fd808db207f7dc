pub mod Bridges
