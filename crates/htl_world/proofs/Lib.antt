pub mod Names
pub mod FirstAbsent
pub mod PassedOn
pub mod Asked
pub mod NamesRead
pub mod NamesOpened
