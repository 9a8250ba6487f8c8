-- First the definitions; from ByteLaws on the proofs that the fields name: the laws of bytes and of residues, and both carried to all words.
pub mod Meaning
pub mod Primes
pub mod Residues
pub mod Bytes
pub mod Faults
pub mod ByteLaws
pub mod Total
pub mod Additive
pub mod ResidueLaws
pub mod Primality
pub mod ResidueInverse
