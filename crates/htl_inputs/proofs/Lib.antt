pub mod InputLaws
pub mod EndLaws
pub mod CutLaws
pub mod SourceLaws
pub mod ReadingLaws
pub mod OneSource
pub mod DigitsLaws
pub mod SpanLaws
