-- For the step that keeps the point.
pub mod FirstPoint
pub mod PointByMoment
