-- Laws of arrays, of XOR counts and of depths.
pub mod Filled
pub mod Tallies
pub mod Bits
pub mod BitMatrix
pub mod Depths
pub mod LineOnes
pub mod Figures
pub mod CountsBefore
