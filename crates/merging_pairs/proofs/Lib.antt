pub mod Bits
pub mod ClashLaws
pub mod MergeLaws
pub mod ReachLaws
pub mod RenumberLaws
pub mod TableLaws
