pub mod Answering
pub mod InsideStairs
pub mod LeadMonomials
pub mod Read
pub mod Stored
