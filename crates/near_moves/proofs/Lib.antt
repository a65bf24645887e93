pub mod DescentLaws
pub mod RecoveryLaws
pub mod LegalLaws
pub mod ListLaws
pub mod FromLaws
pub mod FitLaws
pub mod MomentLaws
pub mod UnitLaws
pub mod ShardLaws
pub mod RepeatLaws
pub mod RouteLaws
pub mod RebookingLaws
pub mod DropLaws
pub mod FamilyLaws
pub mod AimLaws
pub mod StepLaws
pub mod TallyLaws
pub mod ChainLaws
pub mod KeptLaws
pub mod HandLaws
pub mod SwapLaws
pub mod RestoreLaws
pub mod RowLaws
mod Landings
mod SpanLaws
mod CountLaws
mod LineLaws
mod StemLaws
mod TriedLaws
mod FreshLaws
pub mod PlaneLaws
pub mod RuleLaws
pub mod VainLaws
pub mod MoveLaws
pub mod FrameLaws
pub mod SplitLaws
pub mod OwnLaws
pub mod OutLaws
