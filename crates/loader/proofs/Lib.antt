pub mod PlacingLaws
pub mod LoadingLaws
pub mod AddressLaws
pub mod ImageParts
pub mod CoffParts
