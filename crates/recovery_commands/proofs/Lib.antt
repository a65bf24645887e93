mod DescendLaws
pub mod RecoverLaws
pub mod Makers
pub mod Longer
pub mod Running
pub mod Taking
pub mod Living
pub mod RunEnds
pub mod Closing
pub mod Writing
pub mod Watching
