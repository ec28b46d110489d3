pub mod CallLaws
mod EventLaws
mod KeepLaws
mod OrderLaws
mod TopLaws
