-- Chapters: searches; insertion and sorting; lists of different members; the walk from 1; records as monomials; the staircase that the walk finds; the products outside it, and the border that they are; places of products; the two rules.
pub mod Backwards
pub mod Searches
pub mod Insertion
pub mod Distinct
pub mod Walking
pub mod Increasing
pub mod Found
pub mod Outside
pub mod Bordered
pub mod Placing
pub mod Opposites
pub mod Replacing
