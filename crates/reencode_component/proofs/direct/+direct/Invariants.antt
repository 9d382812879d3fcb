use Rattle.std.proofs.Common.{◌+◌, ◌-◌, ◌*◌}
use Rattle.reencode_component.specs.DirectTypes.{declaration_of}
use Rattle.reencode_component.proofs.types_walked.StreamedScopes.{RowsSo}
use Rattle.reencode_component.proofs.direct.+direct.Given as goal

-- the scopes that may still be opened, and between two the order of the calls

abbrev pub decreases-stream_declaration : goal.decreases-stream_declaration
decreases-stream_declaration g l = 3 * (200 - l.depth)

abbrev pub decreases-stream_declarations : goal.decreases-stream_declarations
decreases-stream_declarations g l = 3 * (200 - l.depth) + 1

abbrev pub decreases-stream_scope : goal.decreases-stream_scope
decreases-stream_scope g l = 3 * (200 - l.depth) + 2

-- so many declarations are due, and those in front of them were mapped and appended

abbrev pub invariant-stream_declarations-rows : goal.invariant-stream_declarations-rows
invariant-stream_declarations-rows g l =
    RowsSo g.T.ReencodeIndices (declaration_of l.fn.scope) l.initial.left l.fn.depth l.initial.rest l.initial.reencoder l.initial.out.items l.left l.rest l.reencoder l.out.items

abbrev pub decreases-stream_declarations-rows : goal.decreases-stream_declarations-rows
decreases-stream_declarations-rows g l = l.left
