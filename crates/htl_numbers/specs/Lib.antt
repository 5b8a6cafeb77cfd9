-- What public contracts cite: which texts are numbers, and how numbers are written.
pub mod Numbers
pub mod Written

-- What only private contracts cite: nothing.
