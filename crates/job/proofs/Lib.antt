-- Chapters: the staircase of a closed job; what follows from an answer.
pub mod Stairs
pub mod Promises
pub mod Reading
pub mod Closing
