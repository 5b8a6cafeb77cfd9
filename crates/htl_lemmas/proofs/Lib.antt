pub mod Members
pub mod Tests
pub mod Padding
pub mod Lists
