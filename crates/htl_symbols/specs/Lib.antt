-- What public contracts cite: a table as ranges, what its rows write, and what reading a text answers.
pub mod Ranges
pub mod Rows
pub mod Reading
-- What only private contracts cite: what the code holds, the records that a reader has left, and its steps.
pub mod Symbols
pub mod Records
pub mod Steps
