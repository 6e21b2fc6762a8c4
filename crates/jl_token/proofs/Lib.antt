mod Heads
mod ReversedSums
mod NamesAmong
mod NumberMoves
mod StringMoves
mod Languages
mod Rules
mod ByteKinds
mod NewNames
mod TokenEnds
mod Forward
mod Back
pub mod Complete
mod End
mod Utf8Moves
mod Relaxed
mod WordLetters
mod TokenPlaces
mod Between
mod OneByte
pub mod LexerCalls
mod WholeChars
mod PlainRuns
mod AsciiFronts
mod TextLanes
mod LastOpens
mod RisingNames
mod FewNames
mod OpenStores
mod NameRows
mod BlankRuns
mod NextTokens
pub mod OneTree
pub mod OneReading
pub mod MeantUtf8
pub mod TokensUtf8
pub mod OnePlace
pub mod OneFault
pub mod Ways
mod GrowingTrees
mod TreePlaces
mod TreeEndings
pub mod OneOfTokens
pub mod TextTrees
