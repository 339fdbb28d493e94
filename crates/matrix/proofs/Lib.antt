-- Laws of matrices over the numbers of a field.
pub mod Squares
pub mod Invariance
pub mod Translates
pub mod Rotations
pub mod Residues
pub mod Theorems
pub mod Rows
pub mod Planes
pub mod Circulants
pub mod SmallBlocks
pub mod Minors
pub mod Selections
pub mod Masks
pub mod Regularity
