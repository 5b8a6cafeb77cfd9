pub mod PrintedPlaces
pub mod Stacked
