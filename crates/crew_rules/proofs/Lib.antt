pub mod PlaceLaws
pub mod RuleLaws
pub mod DutyLaws
pub mod WorkedLaws
pub mod LeastLaws
