pub mod Spans
pub mod CutLaws
pub mod FeedLaws
pub mod StandLaws
pub mod SortLaws
pub mod LineLaws
pub mod BatchLaws
