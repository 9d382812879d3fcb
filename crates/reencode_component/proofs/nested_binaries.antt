-- Core modules and components inside a component.
pub mod NestedComponent
pub mod NestedModule
pub mod NestedReadings
pub mod NestedSections
pub mod NestedSteps
