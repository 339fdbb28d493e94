-- Laws of the searches for a branch number, and of involutions.
pub mod Elimination
pub mod Trials
pub mod Least
pub mod Units
