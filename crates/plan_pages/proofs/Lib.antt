pub mod PageLaws
pub mod VersionLaws
