-- The example: a rule set of two queries, the sums over the names in texts.
pub mod Names
pub mod Queries
pub mod RuleSet
