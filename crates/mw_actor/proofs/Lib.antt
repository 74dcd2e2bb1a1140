pub mod JobLaws
pub mod RangeLaws
pub mod PointLaws
