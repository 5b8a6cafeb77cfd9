-- what contracts cite
pub mod Entries
-- what only proofs of crates that stand on this one cite
pub mod Made
