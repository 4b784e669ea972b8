pub mod Places
pub mod Plans
pub mod Prepared
pub mod Texts
pub mod Verdict
pub mod Report
pub mod Planned
pub mod Valid
