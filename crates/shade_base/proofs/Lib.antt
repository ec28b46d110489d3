pub mod FaultLemmas
pub mod TextLemmas
pub mod KnownLemmas
pub mod PlaceLemmas
pub mod Numbers
