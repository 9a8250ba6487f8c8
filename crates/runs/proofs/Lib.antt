-- Chapters: lists of questions and what can be decided; Enter and Fill, whole texts; the polynomials of a sound job; recurrences;
-- output words, conversion and reduction; runs, whole runs; one answer.
pub mod Questions
pub mod Deciding
pub mod Texts
pub mod Entered
pub mod Recurrences
pub mod Outputs
pub mod Conversion
pub mod Runs
pub mod WholeRuns
pub mod OneAnswer
pub mod Lines
pub mod ReadBack
