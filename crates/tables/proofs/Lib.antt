pub mod Answered
pub mod RuleOf
pub mod Forms
pub mod Edges
pub mod Closing
pub mod Commuting
pub mod Asking
pub mod Searching
