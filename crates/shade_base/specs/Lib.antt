-- Rules: Counter, Shelf, Sink, MemoryShelf, MemorySink, Lines, Decimals.
pub mod Counter
pub mod Shelf
pub mod Sink
pub mod MemoryShelf
pub mod MemorySink
pub mod Lines
pub mod Decimals
