pub mod Causing
mod LineRows
pub mod LinePlaces
pub mod LineFollows
pub mod LineCuts
pub mod LineDots
mod BadLineRows
mod LineStarts
pub mod Subtags
pub mod LastByte
pub mod Datatypes
pub mod JsonLists
pub mod SameBlocks
pub mod SameStrings
pub mod UsualBlocks
pub mod UsualTexts
