-- What public contracts cite, in the order in which a reader wants it: events as values, what they are counted
-- under, the orders, the ranges of numbers, lists of the members of a set, the questions about handles and about counts, what a summary
-- states, which stacks left handles open, events as of a moment and how many handles were open as of several, what a question asks about,
-- the words of kinds, and the laws.
pub mod Events
pub mod Slots
pub mod SlotOrder
pub mod Stacks
pub mod Ranges
pub mod Members
pub mod Handles
pub mod Tallies
pub mod Summaries
pub mod Sites
pub mod Balances
pub mod Moments
pub mod Growth
pub mod Interests
pub mod Words
pub mod Laws
-- What only private contracts cite: the laws that the comparisons owe.
pub mod OrderLaws
