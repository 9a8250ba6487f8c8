-- What any order's laws give, and what the library's comparison of arrays and its `all` answer. The laws of DRL, LEX and renumbered orders are proved in specs/, where the orders name them.
pub mod Products
pub mod Arrays
pub mod Every
