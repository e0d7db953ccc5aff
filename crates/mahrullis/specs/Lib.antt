pub mod Reports
pub mod PurseReports
