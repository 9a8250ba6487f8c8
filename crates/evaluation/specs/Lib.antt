pub mod Evaluation
pub mod Faults
pub mod Basis
pub mod Answer
pub mod Padded
pub mod Steps
