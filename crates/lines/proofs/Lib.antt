pub mod PutLaws
pub mod DigitLaws
pub mod LineLaws
pub mod PartLaws
pub mod TextLaws
pub mod ListingLaws
pub mod OutputLaws
