pub mod PushLaws
pub mod PushedLaws
pub mod RowLaws
pub mod StepLaws
pub mod SumLaws
pub mod SwapLaws
