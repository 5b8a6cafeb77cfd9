-- What public contracts cite, in the order in which a reader wants it: the limits of the versions, what a
-- segment says and when it fits, its bytes, what bytes say and the first rule that they break, records in
-- place, bundles, what keepers take of them, pieces, a segment from its parts, hexadecimal; then keys, traces
-- and the laws of their events, sequences that rise, what is kept of a segment beside its events, sequences that
-- come twice, which sequences were seen, and what is kept of segments for a question.
pub mod Versions
pub mod Content
pub mod Numbers
pub mod Encoding
pub mod Reading
pub mod Faults
pub mod Records
pub mod Bundles
pub mod Keepers
pub mod Pieces
pub mod Building
pub mod Hexadecimal
pub mod Keys
pub mod Traces
pub mod TraceLaws
pub mod Rising
pub mod Outlines
pub mod Repeated
pub mod Seen
pub mod Picks
-- What only private contracts and invariants cite: a segment in place, and the steps of splitting.
pub mod InPlace
pub mod Feeding
