use Rattle.std.proofs.Common.{refl}
use Rattle.reencode_hooks.specs.Run.{ask}
use Rattle.reencode_component.proofs.types_walked.TypeParts.{labels_kept}
use Rattle.reencode_component.proofs.types.parse_component_defined_type.Goals as goal

pub returns-in-Flags : goal.returns-in-Flags
returns-in-Flags g c =
    let i = g.T.ReencodeIndices in
    rw c.in-Flags.is (record { default = λ k ceiling. rw (labels_kept (ask i.reply i.next) ceiling c.args.reencoder.now c.in-Flags.names) refl; after_error = λ k sure. tt })

pub returns-in-Enum : goal.returns-in-Enum
returns-in-Enum g c =
    let i = g.T.ReencodeIndices in
    rw c.in-Enum.is (record { default = λ k ceiling. rw (labels_kept (ask i.reply i.next) ceiling c.args.reencoder.now c.in-Enum.names) refl; after_error = λ k sure. tt })
