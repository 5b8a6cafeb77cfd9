-- What public contracts cite, in the order in which a reader wants it: a state as rows, its bytes and their checksum,
-- what bytes say and the first rule that they break, and when rows are those of a state.
pub mod Rows
pub mod Checksum
pub mod Format
pub mod Reading
pub mod WellFormed
