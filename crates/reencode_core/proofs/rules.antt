-- Reencoders that go by a rule for indices.
pub mod CheckRuns
pub mod RuleRuns
