pub mod Culprits
