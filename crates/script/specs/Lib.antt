pub mod Limits
pub mod Text
pub mod Replies
pub mod Reports
