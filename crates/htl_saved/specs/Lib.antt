-- cited by public contracts
pub mod Tables
pub mod AnalystRows
pub mod Restored
pub mod Loads
pub mod Laws
