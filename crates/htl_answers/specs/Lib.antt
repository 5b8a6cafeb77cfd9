-- What public contracts cite.
pub mod Parts
pub mod Sums
-- What only private ones cite.
pub mod Counts
pub mod Rows
pub mod RowOrder
pub mod Open
pub mod Leaks
pub mod Lives
pub mod Points
pub mod Tags
pub mod Bad
