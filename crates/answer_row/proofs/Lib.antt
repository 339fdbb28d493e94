-- Laws of a row that is found, and of a walk.
pub mod Found
pub mod Walked
