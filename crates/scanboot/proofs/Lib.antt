pub mod PackingLaws
pub mod SmallLaws
pub mod SourceLaws
pub mod ImageLaws
pub mod AnswerLaws
