pub mod CallLaws
pub mod TagLaws
pub mod OneTables
pub mod UsedLaws
pub mod OrderLaws
pub mod OneReports
