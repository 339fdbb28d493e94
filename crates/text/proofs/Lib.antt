-- Laws of numbers in their columns and of whole texts.
pub mod Places
pub mod Compare
pub mod Lengths
pub mod Numbers
pub mod Loops
pub mod Form
pub mod FormBefore
pub mod Requests
pub mod Answers
pub mod Example
