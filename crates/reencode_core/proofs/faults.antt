-- Faults: where they are, what stands in front of them, and which error they give.
pub mod FaultPlace
pub mod OneFront
pub mod RefusalLaws
pub mod WalkRefusals
