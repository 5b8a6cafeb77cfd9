-- What public contracts cite.
pub mod Digits
pub mod Sources
pub mod Taking
-- What only private contracts cite.
pub mod Keepers
pub mod Parts
pub mod Blocks
pub mod Pairs
