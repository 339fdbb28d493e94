-- Laws of what is due, of the values of a request, and of replies.
pub mod DueFrom
pub mod Replies
pub mod Values
