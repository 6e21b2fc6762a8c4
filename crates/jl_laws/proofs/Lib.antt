pub mod RowWords
pub mod SaysRows
pub mod Counting
pub mod Equality
pub mod Bools
pub mod Begun
pub mod Decided
mod LateStays
mod LiteralStays
mod ItemsStay
pub mod MemberStays
mod FaultsStay
pub mod ItemsSay
pub mod Frames
mod NameOrder
mod Reorder
mod MembersOnce
mod StreamingDecides
mod MembersMove
mod WrongWalks
mod SameScalars
mod Meets
mod SameValues
pub mod OpenParts
pub mod OpenGoesOn
mod FaultsStayInBytes
mod ReportRows
pub mod ContextCodes
pub mod FaultCodes
