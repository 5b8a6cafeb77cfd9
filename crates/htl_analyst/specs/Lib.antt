-- cited by public contracts
pub mod States
pub mod Keys
pub mod Right
pub mod Same
pub mod Refusals
pub mod Steps
pub mod Restored
pub mod Moments
pub mod Calls
pub mod Compactions
pub mod TakenEvents
pub mod TakenAll
pub mod Laws
-- cited by private contracts alone
pub mod StepParts
