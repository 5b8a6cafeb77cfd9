-- What public contracts cite.
pub mod Dumps
pub mod Encodings
-- What only private contracts cite.
pub mod Dumping
pub mod Writing
