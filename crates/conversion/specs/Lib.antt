pub mod Powers
pub mod Asked
pub mod Rows
pub mod Phases
pub mod Values
pub mod Answer
