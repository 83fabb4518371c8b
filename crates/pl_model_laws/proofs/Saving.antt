-- Lemmas on what an event leaves as it was, and on what covers an operation.
pub mod Beginning
pub mod Covered
pub mod Covering
pub mod KeptAnswers
pub mod KeptRows
pub mod KeptSources
pub mod KeptState
