-- Rules: Structure, Rows, Edges, AllRows, Joined (AreGiven). On the way to proofs: Visits, NodeLists, RowLists, HeldRows.
pub mod Structure
pub mod Rows
pub mod Edges
pub mod AllRows
pub mod Visits
pub mod NodeLists
pub mod RowLists
pub mod HeldRows
pub mod Joined
