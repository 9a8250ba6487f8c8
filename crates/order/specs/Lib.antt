-- First the definitions; from OrderLaws on the proofs that the orders name: the laws of DRL and LEX, monomials by exponents, as products of variables, comparisons of numbers, of runs of
-- numbers, and moved exponents.
pub mod Monomials
pub mod Laws
pub mod Orders
pub mod Rearrangements
pub mod Faults
pub mod Renumberings
pub mod Claims
pub mod OrderLaws
pub mod Exponents
pub mod Variables
pub mod Numbers
pub mod Differences
pub mod Moves
