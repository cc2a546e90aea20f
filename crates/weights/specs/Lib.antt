pub mod Kinds
pub mod DaysKind
pub mod SecondsKind
pub mod DaysLaws
pub mod SecondsLaws
