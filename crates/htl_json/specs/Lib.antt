-- What public contracts cite: the value of each line, and what a line is.
pub mod Records
pub mod Frames
pub mod Heads
pub mod Rows
pub mod Lines
pub mod Laws
-- What only private contracts cite: how lines are added to a text.
pub mod Writing
