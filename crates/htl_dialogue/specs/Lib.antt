-- What public contracts cite.
pub mod Lines
pub mod Sayings
pub mod Notes
pub mod Dialogues
-- What only private contracts cite.
pub mod Parts
pub mod Reading
pub mod Replying
