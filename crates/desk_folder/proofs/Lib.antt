pub mod EntryLemmas
pub mod FileLemmas
pub mod HostLemmas
pub mod Frames
pub mod PutLemmas
pub mod Among
pub mod PutAll
mod FeedLemmas
