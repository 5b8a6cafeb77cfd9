-- What public contracts cite: out of memory, and lists that are compared.
pub mod Refusals
pub mod Lists
