-- What public contracts cite: the text of each answer, and what lines are made of.
pub mod Addresses
pub mod Parts
pub mod Heads
pub mod Rows
pub mod Summaries
pub mod Texts
pub mod Folded
pub mod Names
-- What only private contracts cite: where lines of stacks stand.
pub mod Printed
