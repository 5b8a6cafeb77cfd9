pub mod ShownTags
pub mod Told
mod SourcesRead
mod Converted
mod Picked
mod Answered
pub mod NamesRun
mod RunAgain
