pub mod IdentityLaws
pub mod MarkLaws
pub mod PieceLaws
pub mod ReplyLaws
pub mod SeenLaws
pub mod WantLaws
