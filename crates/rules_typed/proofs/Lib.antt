pub mod Keeping
pub mod PlaceLaws
pub mod KindLaws
pub mod AllowLaws
pub mod FindLaws
pub mod Insides
