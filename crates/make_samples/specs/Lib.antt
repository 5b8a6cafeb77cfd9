-- What public contracts cite.
pub mod Writing

-- What only private contracts cite: nothing.
