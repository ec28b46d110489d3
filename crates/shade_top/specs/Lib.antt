-- Rules: Answer, Causes, Laws, Ready, Request, Serves, Text. On the way to proofs: Report.
pub mod Answer
pub mod Causes
pub mod Laws
pub mod Ready
pub mod Report
pub mod Request
pub mod Serves
pub mod Text
