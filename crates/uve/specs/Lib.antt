pub mod Reports
pub mod Calls
pub mod JoinedLaws
pub mod ReportLaws
pub mod CallLaws
pub mod Examples
