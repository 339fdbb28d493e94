-- Laws of the product by halves.
pub mod Halving
