-- The theory of rows.
pub mod Rows
pub mod Lightest
pub mod Keys
pub mod Around
pub mod Demands
pub mod Walk
pub mod IndexMaps
pub mod HadamardRows
pub mod CirculantMaps
pub mod CirculantRows
pub mod FewCandidates
pub mod Arrangements
pub mod RowNumbers
pub mod Walks
pub mod Executable
pub mod Bounds
pub mod RowsBefore
