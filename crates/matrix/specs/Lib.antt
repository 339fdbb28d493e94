-- Steps of the code on matrices, which nobody need believe. What its contracts cite beside them are the definitions of `algebra`, at the numbers of `lines`.
pub mod Steps
