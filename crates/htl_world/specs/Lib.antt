-- What public contracts cite.
pub mod Worlds
pub mod Rounds
pub mod Endings
pub mod Readings
pub mod Openings
