pub mod Depths
pub mod Tokens
pub mod Line
pub mod Added
pub mod OneRow
