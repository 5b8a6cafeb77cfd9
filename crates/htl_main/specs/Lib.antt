-- What public contracts cite.
pub mod Completeness
pub mod Moments
pub mod Coverages
pub mod Subjects
pub mod Printed
pub mod Remarks
pub mod Causes
pub mod Origins
pub mod Loading
pub mod Adding
pub mod Folding
pub mod Asked
pub mod Picked
pub mod Runs
pub mod SavedStates
pub mod StateRuns
pub mod Analysts
pub mod Histories
-- What only private contracts cite.
pub mod Folders
pub mod Merging
pub mod CaseOutlines
pub mod Pairs
pub mod Picking
pub mod Printing
