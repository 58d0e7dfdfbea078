pub mod CountLemmas
pub mod EntryLemmas
pub mod ReadLemmas
pub mod WriteLemmas
