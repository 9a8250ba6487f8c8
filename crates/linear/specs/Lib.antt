pub mod Words
pub mod Step
pub mod Krylov
pub mod Recurrence
pub mod Massey
pub mod Hankel
pub mod Echelon
pub mod Elimination
