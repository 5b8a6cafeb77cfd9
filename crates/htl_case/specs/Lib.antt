-- cited by public contracts
pub mod Cases
pub mod Faults
pub mod Picked
pub mod Spans
pub mod Complete
pub mod Plays
pub mod Reached
pub mod Answers
pub mod Questions
pub mod Histories
pub mod Headline
pub mod Final
pub mod TakenCases
-- cited by private contracts alone
pub mod Ordered
pub mod Outlined
pub mod Listed
pub mod Changes
