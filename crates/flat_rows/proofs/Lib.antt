pub mod EndLaws
pub mod FaultLaws
pub mod KeyedItems
pub mod KeyedLaws
pub mod PlaceLaws
pub mod ReplyLaws
pub mod FirstTexts
