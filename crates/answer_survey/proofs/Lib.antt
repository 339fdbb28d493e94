-- Laws of the survey's lines.
pub mod Surveys
