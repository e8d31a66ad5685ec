pub mod Units
pub mod Symbols
pub mod Searches
pub mod TableLemmas
pub mod ReservedWords
pub mod PlaceLemmas
pub mod RunLemmas
pub mod NumberLemmas
pub mod Pieces
pub mod CommentLemmas
pub mod Cuts
pub mod PieceKinds
pub mod Files
mod Marking
