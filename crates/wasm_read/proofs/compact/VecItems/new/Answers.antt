use Rattle.std.proofs.Common.{ap, length, arith}
use Rattle.wasm_read.proofs.VectorItems.{none_of, held_whole, whole_spells, no_vector_behind, no_vector_stuck}
use Rattle.wasm_read.proofs.compact.VecItems.new.Goals as goal

pub invariant_of-result : goal.invariant_of-result
invariant_of-result g c =
    let ok = c.in-Ok-default-default-empty in
    (held_whole ok.ensures.ok (none_of ok.field-0-2.now ok.len_below), tt)

pub returns-in-Ok-default-default-empty-clause-ok : goal.returns-in-Ok-default-default-empty-clause-ok
returns-in-Ok-default-default-empty-clause-ok g c =
    let ok = c.in-Ok-default-default-empty in
    whole_spells ok.ensures.ok (none_of ok.field-0-2.now ok.len_below) g.T.Entry.rows_sound _

pub returns-in-Ok-clause-err : goal.returns-in-Ok-clause-err
returns-in-Ok-clause-err g c =
    let some = c.in-Ok.len_at_least in
    no_vector_behind g.T.Entry.rows_sound c.in-Ok.ensures.ok (λ e. let none = ap length e in omega arith)

pub returns-in-Err-clause-err : goal.returns-in-Err-clause-err
returns-in-Err-clause-err g c = no_vector_stuck c.in-Err.ensures.err
