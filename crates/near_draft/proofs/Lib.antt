pub mod BaseLaws
pub mod ChangeLaws
mod HourLaws
mod LegLaws
mod KeptLaws
mod MarkLaws
pub mod RuleLaws
pub mod BreakLaws
