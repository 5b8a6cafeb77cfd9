-- What public contracts cite, in the order in which a reader wants it: sets of runs, parcels, the rule of the
-- exchange and the steps that keep it, what a desk is, what its calls answer, and a law.
pub mod Runs
pub mod Parcels
pub mod Rule
pub mod Moves
pub mod Desks
pub mod Collects
pub mod Laws
-- What only private contracts cite: how the queue is filled.
pub mod Filling
