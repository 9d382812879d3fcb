use Rattle.reencode_component.proofs.types_walked.StreamedScopes.{type_begins}
use Rattle.reencode_component.proofs.direct.scoped_by.Goals as goal

pub returns-in-Some : goal.returns-in-Some
returns-in-Some g c = λ depth t stands low. rw (c.left.ensures, c.depth.ensures.is, c.in-Some.ensures.some.0) (type_begins c.args.scope depth c.args.declarations.now t stands low)
