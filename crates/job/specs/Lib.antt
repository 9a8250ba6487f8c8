pub mod State
pub mod Promise
pub mod Parts
