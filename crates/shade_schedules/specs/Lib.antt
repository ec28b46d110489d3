-- Rules: System, Machine, Races, Words, Choices, Orders, Records. On the way to proofs: Goods, Scripts.
pub mod System
pub mod Machine
pub mod Races
pub mod Words
pub mod Choices
pub mod Orders
pub mod Goods
pub mod Scripts
pub mod Records
