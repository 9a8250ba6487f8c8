pub mod Faults
pub mod Questions
pub mod Steps
pub mod Answer
