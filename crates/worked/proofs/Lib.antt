-- Chapters: computed tests of questions; words that stand for elements; jobs, conversions and reductions by tests; the rows of the table.
pub mod Tests
pub mod Words
pub mod Jobs
pub mod Conversions
pub mod Reductions
pub mod Rows
