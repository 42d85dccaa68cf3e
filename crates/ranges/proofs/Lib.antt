pub mod HeldLaws
pub mod CoverLaws
pub mod SearchLaws
pub mod RowLaws
pub mod MeetingLaws
pub mod AcrossLaws
