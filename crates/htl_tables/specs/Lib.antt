-- cited by public contracts
pub mod Keys
pub mod Latest
pub mod Greatest
pub mod Tables
pub mod Laws
-- cited by private contracts alone
pub mod OfProcess
pub mod KeyLaws
pub mod RowOrder
pub mod Moments
pub mod SortKeys
pub mod FirstKeys
pub mod Placing
