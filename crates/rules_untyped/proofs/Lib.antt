pub mod ScanLaws
pub mod UseLaws
pub mod LackLaws
pub mod ReachLaws
pub mod UsedLaws
pub mod SetLaws
