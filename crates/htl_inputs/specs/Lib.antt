-- What the contracts of runs cite.
pub mod Inputs
pub mod CutInputs
pub mod Sources
pub mod Readings
pub mod Statuses
-- What only contracts of the calls cite that runs are made of.
pub mod Ends
pub mod Faults
pub mod Reads
pub mod Spans
