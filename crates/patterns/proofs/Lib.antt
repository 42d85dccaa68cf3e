pub mod ZeroLaws
pub mod TakingLaws
pub mod StarsLaws
pub mod StepLaws
pub mod PieceLaws
pub mod RowLaws
