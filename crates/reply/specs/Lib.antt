-- What is due to a request text, and what a call leaves. To be believed: all.
pub mod Due
pub mod Answered
