-- Rules: Faults, Usages, Few, Aliases, Laws.
-- On the way to proofs: Findings, Sets, Gathered, Scans, Found.
pub mod Faults
pub mod Findings
pub mod Laws
pub mod Usages
pub mod Few
pub mod Aliases
pub mod Sets
pub mod Gathered
pub mod Scans
pub mod Found
