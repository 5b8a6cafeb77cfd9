-- What public contracts cite.
pub mod States
pub mod Devices
pub mod Failures

-- What only private contracts cite: nothing.
