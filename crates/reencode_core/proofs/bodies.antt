-- Function bodies: locals, operators, and parts of a body that stay as they are.
pub mod BodyFromPlace
pub mod BodyLoop
pub mod EachBody
pub mod Locals
pub mod OperatorRuns
pub mod RestOfBody
pub mod SkippedFront
pub mod WholeBody
