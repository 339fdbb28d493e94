-- Laws of the definitions, for this crate's proofs and for the crates above.
pub mod Lists
pub mod Counting
pub mod Joined
pub mod Evaluation
pub mod AlwaysZero
pub mod InputLists
pub mod InputArrays
pub mod SameEntries
pub mod Netlists
