-- What public contracts cite.
pub mod Opened
pub mod Outcomes
pub mod Statuses
pub mod AskedAbout
pub mod Parts
pub mod Messages
pub mod Words
pub mod Programs
-- What only private contracts cite.
pub mod Runs
