use Rattle.std.proofs.Common.{Ok, Err, refl}
use Rattle.std.proofs.Math.Seq.{take-length}
use Rattle.wasm_write_component.specs.TypeRows.{instance_declaration_tree}
use Rattle.reencode_items.proofs.Streaming.{kept_len, unasked_stops}
use Rattle.reencode_component.proofs.types_walked.StreamedScopes.{none_streams_at, row_stops, row_streams, row_unwritten}
use Rattle.reencode_component.proofs.types_walked.TypesStanding.{instance_listed}
use Rattle.reencode_component.proofs.direct.stream_instance_row.Goals as goal

pub returns-in-Ok-write : goal.returns-in-Ok-write
returns-in-Ok-write g c =
    let i = g.T.ReencodeIndices in
    let row = rw c.in-Ok-Some.field-0-is at c.in-Ok-Some.ensures.some in
    let given = instance_listed i _ _ c.args.depth c.in-Ok-Some.decl row.tree row.is row.begins.shallow (Ok c.in-Ok.decl) c.in-Ok.ensures in
    row_streams i refl refl row.tree row.begins.begins instance_declaration_tree c.in-Ok-Some.rest c.in-Ok.decl refl given c.in-Ok-write.ensures.spells c.in-Ok-write.ensures.ok

pub returns-in-Ok : goal.returns-in-Ok
returns-in-Ok g c =
    let i = g.T.ReencodeIndices in
    let row = rw c.in-Ok-Some.field-0-is at c.in-Ok-Some.ensures.some in
    let given = instance_listed i _ _ c.args.depth c.in-Ok-Some.decl row.tree row.is row.begins.shallow (Ok c.in-Ok.decl) c.in-Ok.ensures in
    rw c.from.ensures (row_unwritten i refl refl row.tree row.begins.begins instance_declaration_tree c.in-Ok.decl c.in-Err-write.fault (kept_len _ _ c.args.out.now.ok.0 c.in-Err-write.ensures.err) given c.in-Err-write.ensures.large)

pub returns-in-Ok-Some : goal.returns-in-Ok-Some
returns-in-Ok-Some g c =
    let i = g.T.ReencodeIndices in
    let row = rw c.in-Ok-Some.field-0-is at c.in-Ok-Some.ensures.some in
    let given = instance_listed i _ _ c.args.depth c.in-Ok-Some.decl row.tree row.is row.begins.shallow (Err c.in-Err-instance_declaration.e) c.in-Err-instance_declaration.ensures in
    row_stops i refl refl row.tree row.begins.begins instance_declaration_tree c.in-Err-instance_declaration.e refl given

pub returns-in-Ok-None : goal.returns-in-Ok-None
returns-in-Ok-None g c = none_streams_at g.T.ReencodeIndices (take-length _) (rw c.in-Ok-None.field-0-is at c.in-Ok-None.ensures.none)

pub returns : goal.returns
returns g c = unasked_stops g.T.ReencodeIndices (take-length _) refl
