use Rattle.reencode_component.proofs.direct.scoped_type.Goals as goal

pub returns-in-Component : goal.returns-in-Component
returns-in-Component c = rw c.in-Component.is c.scoped_by.ensures

pub returns-in-Instance : goal.returns-in-Instance
returns-in-Instance c = rw c.in-Instance.is c.scoped_by-in-Instance.ensures
