pub mod Search
pub mod Sorting
pub mod Walk
pub mod Stairs
pub mod Edges
pub mod Places
pub mod Rules
pub mod Steps
