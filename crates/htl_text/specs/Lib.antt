-- What public contracts cite, in the order in which a reader wants it: what lines say, the text of a segment,
-- the fields of a line, which item a line has, and what a text encodes, or else its first fault.
pub mod Items
pub mod Texts
pub mod Fields
pub mod Lines
pub mod Encoded
-- What only private contracts cite: where words begin and end, and the steps of reading.
pub mod Words
pub mod Steps
