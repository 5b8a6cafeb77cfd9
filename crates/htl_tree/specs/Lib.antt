-- what public contracts cite
pub mod HasSlot
pub mod Trees
pub use Rattle.htl_sorted.specs.Entries
-- what private ones cite
pub mod Filters
pub mod Nodes
pub mod Rows
pub mod Removed
