pub mod PlainTexts
pub mod Putting
pub mod OpenTexts
pub mod Used
mod Grouped
mod GoingOn
mod GroupedTexts
mod StringTexts
mod GroupedTrees
mod Readings
mod GoodGroups
mod TreesRead
mod GroupedQuads
mod KeysMean
mod Decided
mod Faultless
mod Saying
mod TextReadsBack
mod WrongTexts
pub mod WholeChars
