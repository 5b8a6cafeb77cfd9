pub mod Covered
pub mod OfProcessor
pub mod Outlined
pub mod OneAnswer
pub mod TellLaws
pub mod FoundByBytes
pub mod TakenOver
