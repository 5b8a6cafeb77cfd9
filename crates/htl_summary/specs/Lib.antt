-- What public contracts cite: laws of sites and of balances.
pub mod SiteLaws
pub mod BalanceLaws
-- What only private contracts cite: the answers are those of htl_event's `Summaries`, `Sites` and `Balances`.
pub mod Totals
pub mod Counted
pub mod Usages
pub mod ObjectTags
pub mod Rows
pub mod Openers
pub mod Ranking
pub mod Balancing
