-- The numbers of a field in arrays, and what a line of them costs: XOR count and depth. To be believed: all but Steps.
pub mod Numbers
pub mod Counts
pub mod Depths
pub mod Steps
