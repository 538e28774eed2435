pub mod ReadLemmas
pub mod ChosenLemmas
pub mod SizeLemmas
