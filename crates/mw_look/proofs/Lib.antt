pub mod PlaceLaws
pub mod RangeLaws
pub mod RunLaws
pub mod ValueLaws
