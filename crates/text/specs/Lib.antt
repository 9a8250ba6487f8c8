pub mod Faults
pub mod Asked
pub mod Clamped
pub mod Steps
pub mod Written
pub mod Filling
pub mod Filled
