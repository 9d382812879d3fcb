-- Faults of a component.
pub mod OneFault
