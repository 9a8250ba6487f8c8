pub mod Column
pub mod Front
pub mod Laws
pub mod Line
pub mod Place
pub mod Walk
