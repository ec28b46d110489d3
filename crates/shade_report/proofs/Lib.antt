mod InstanceLaws
mod ReportLaws
