pub mod StepLaws
pub mod PlaceLaws
pub mod CountedLaws
pub mod RecordLaws
pub mod WalkingLaws
pub mod EarlierLaws
pub mod TableLaws
