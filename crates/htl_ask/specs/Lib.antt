-- What public contracts cite.
pub mod Asking
pub mod Beginnings
pub mod LineRounds
pub mod Outcomes
pub mod OverStates
-- What only private contracts cite.
pub mod Loads
