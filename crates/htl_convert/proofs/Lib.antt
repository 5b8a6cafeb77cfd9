pub mod CutCounts
pub mod DumpLaws
pub mod EncodeLaws
pub mod Unasked
