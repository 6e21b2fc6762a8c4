pub mod Ends
pub mod Slashes
pub mod SegmentLemmas
pub mod Resolved
pub mod RenLemmas
