use Rattle.std.proofs.Common.{refl}
use Rattle.wasm_shapes.proofs.Begins.{begins_ix}
use Rattle.reencode_hooks.specs.Run.{ask}
use Rattle.reencode_items.proofs.Passing.{index_kept, index_kind_core, index_row, keeps_one, makes_one, normally, refuses_one}
use Rattle.reencode_items.proofs.direct.passing.pass_index.Goals as goal

pub returns-then-short-clause-kept : goal.returns-then-short-clause-kept
returns-then-short-clause-kept g c =
    let i = g.R.ReencodeIndices in
    keeps_one _ _ _ c.requires.head (index_row c.requires.one) (normally (begins_ix c.in-Some.ensures.begins) (c.in-Some.ensures.short c.if-short.true))
    (index_kept (ask i.reply i.next) c.args.reencoder.now c.args.space (c.in-Ok.ensures.default c.requires.one.is.1) c.if-answer-index.true)

pub returns-else-answer-index-clause-next : goal.returns-else-answer-index-clause-next
returns-else-answer-index-clause-next g c =
    makes_one _ _ _ c.requires.head (index_row c.requires.one) (begins_ix c.in-Some.ensures.begins) _ (index_kind_core c.args.space c.in-Ok.answer c.requires.one.is.1) refl
    (c.in-Ok.ensures.default c.requires.one.is.1)

pub returns-in-Err-clause-err : goal.returns-in-Err-clause-err
returns-in-Err-clause-err g c =
    refuses_one _ _ _ c.requires.head (index_row c.requires.one) (begins_ix c.in-Some.ensures.begins) _ (c.in-Err.ensures.default c.requires.one.is.1)
