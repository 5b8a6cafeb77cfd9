pub mod Places
pub mod Finds
pub mod ChangedKeys
pub mod SideBySide
pub mod Rows
