pub mod Holds
pub mod Products
pub mod Columns
pub mod Filling
pub mod Agreeing
pub mod Making
