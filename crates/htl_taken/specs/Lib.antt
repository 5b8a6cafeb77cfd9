-- cited by public contracts
pub mod Rising
pub mod Numbers
pub mod Gaps
pub mod Laws
-- cited by private contracts alone
pub mod NumberSets
pub mod Merging
pub mod RisingProp
pub mod GapLists
