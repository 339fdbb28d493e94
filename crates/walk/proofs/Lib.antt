-- Laws of the walk over the rows of different candidates.
pub mod Successors
pub mod Ranks
pub mod Behind
pub mod Filling
pub mod Judged
pub mod EightSmallest
pub mod Positions
pub mod Begun
pub mod Telling
