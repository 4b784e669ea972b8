pub mod ItemLaws
pub mod ValueLaws
