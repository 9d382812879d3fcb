use Rattle.std.proofs.Common.{refl}
use Rattle.wasm_shapes.proofs.Begins.{begins_ix}
use Rattle.reencode_hooks.specs.Run.{ask}
use Rattle.reencode_items.proofs.Passing.{index_kept, keeps_two, makes_two, refuses_first, refuses_second, two_kinds}
use Rattle.reencode_items.proofs.direct.passing.pass_two.Goals as goal

pub returns-then-short-clause-kept : goal.returns-then-short-clause-kept
returns-then-short-clause-kept g c =
    let i = g.R.ReencodeIndices in
    let two = c.requires.two in
    let there = c.in-Some.ensures.begins in
    keeps_two (ask i.reply i.next) _ c.requires.head two.row (begins_ix there.first) (begins_ix there.second) (c.in-Some.ensures.short c.if-short.true)
    (index_kept (ask i.reply i.next) c.args.reencoder.now c.args.spaces.0 (c.in-Ok.ensures.default two.first) c.if-answer-first.true)
    (index_kept (ask i.reply i.next) c.core_index.new.reencoder c.args.spaces.1 (c.in-Ok-core_index.ensures.default two.second) c.if-other-second.true)

pub returns-else-answer-first-clause-next : goal.returns-else-answer-first-clause-next
returns-else-answer-first-clause-next g c =
    let two = c.requires.two in
    let there = c.in-Some.ensures.begins in
    makes_two _ _ c.requires.head two.row (begins_ix there.first) (begins_ix there.second) _ (two_kinds c.args.spaces.0 c.args.spaces.1 c.in-Ok.answer c.in-Ok-core_index.other two.first two.second) refl
    (c.in-Ok.ensures.default two.first) (c.in-Ok-core_index.ensures.default two.second)

pub returns-in-Err-core_index-clause-err : goal.returns-in-Err-core_index-clause-err
returns-in-Err-core_index-clause-err g c =
    let two = c.requires.two in
    let there = c.in-Some.ensures.begins in
    refuses_second _ _ c.requires.head two.row (begins_ix there.first) (begins_ix there.second) _ (c.in-Ok.ensures.default two.first) (c.in-Err-core_index.ensures.default two.second)

pub returns-in-Err-clause-err : goal.returns-in-Err-clause-err
returns-in-Err-clause-err g c =
    let two = c.requires.two in
    let there = c.in-Some.ensures.begins in
    refuses_first _ _ c.requires.head two.row (begins_ix there.first) (begins_ix there.second) _ (c.in-Err.ensures.default two.first)
