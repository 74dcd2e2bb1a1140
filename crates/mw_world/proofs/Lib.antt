pub mod FirstInvariant
pub mod HeadlineConsequences
pub mod PlacesApart
pub mod RunsExtend
pub mod EitherFile
pub mod EnoughPlaces
pub mod MapLaws
