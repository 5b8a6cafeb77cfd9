pub mod Described
pub mod Arguments
pub mod OfStates
pub mod FaultTexts
