-- What public contracts cite.
pub mod Samples

-- What only private contracts cite: nothing.
