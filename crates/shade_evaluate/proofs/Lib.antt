pub mod FaultLaws
pub mod FitLaws
pub mod ProductLaws
pub mod TurnLaws
