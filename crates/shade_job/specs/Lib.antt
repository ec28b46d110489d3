-- Rules: Buffers, Faults, JobOf, Json, Laws, OneAnswer, Pointers, Policies, Refusals, Rules, Schedules, Steps.
-- On the way to proofs: Asked, ByRule.
pub mod Asked
pub mod Buffers
pub mod ByRule
pub mod Faults
pub mod JobOf
pub mod Json
pub mod Laws
pub mod OneAnswer
pub mod Pointers
pub mod Policies
pub mod Refusals
pub mod Rules
pub mod Schedules
pub mod Steps
