-- The promises of every request text, by name.
pub mod EveryKind
pub mod Limits
pub mod Demands
pub mod WellFormed
pub mod DemandThree
pub mod Walks
pub mod Lowest
pub mod Acceptance
pub mod Shown
pub mod WholeInput
pub mod SurveyLines
pub mod Lines
pub mod RowCounts
pub mod AsBefore
pub mod KindsBefore
pub mod GateTexts
pub mod FewCandidates
