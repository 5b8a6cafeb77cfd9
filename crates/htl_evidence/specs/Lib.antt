-- What public contracts cite.
pub mod Bases
pub mod Kept
pub mod Told
pub mod Outlines
-- What only private ones cite.
pub mod Columns
