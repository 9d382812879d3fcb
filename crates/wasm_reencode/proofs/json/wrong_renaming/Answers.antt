use Rattle.std.proofs.Common.{List, ℕ, None, Some, string_bytes, sym, subst}
use Rattle.serde_json.specs.View.{members_view, view}
use Rattle.wasm_reencode.specs.Json.{TellsRenaming}
use Rattle.wasm_reencode.proofs.Wrong.{renaming_fits, so_begin, so_here, so_last, so_next}
use Rattle.wasm_reencode.proofs.json.wrong_renaming.Goals as goal

pub returns-in_default-clause-told : goal.returns-in_default-clause-told
returns-in_default-clause-told c =
    let P : List ℕ → Type 0 = λ z. TellsRenaming (view c.args.value.now) (Some z) in
    subst P (sym c.in_ok-from_str.ensures.ok) (TellsRenaming.no_object (sym c.in_default.ensures))

pub loop-key-init : goal.loop-key-init
loop-key-init c = so_begin c.in-Some.members.now.entries (λ said told. TellsRenaming.members (members_view c.in-Some.members.now.entries) (sym c.in-Some.ensures) told) (cc)

pub loop-key-preserved : goal.loop-key-preserved
loop-key-preserved c =
    so_next (c.in-Some-2.key.now, c.in-Some-2.value.now) c.as_str.result.now c.in_ok-wrong.field-0 c.loop-key.invariant c.in-Some-2.ensures.steps c.as_str.ensures.value
    c.in_ok-wrong.ensures c.in_default-2.is

pub returns-in-Some-3-clause-told : goal.returns-in-Some-3-clause-told
returns-in-Some-3-clause-told c =
    so_here (c.in-Some-2.key.now, c.in-Some-2.value.now) c.as_str.result.now c.in_ok-wrong.field-0 c.in-Some-3.wrong c.loop-key.invariant c.in-Some-2.ensures.steps c.as_str.ensures.value
    c.in_ok-wrong.ensures c.in-Some-3.is

pub returns-in-Some-3-clause-fits : goal.returns-in-Some-3-clause-fits
returns-in-Some-3-clause-fits c =
    renaming_fits (view c.args.value.now) (Some (string_bytes c.in-Some-3.wrong))
    (so_here (c.in-Some-2.key.now, c.in-Some-2.value.now) c.as_str.result.now c.in_ok-wrong.field-0 c.in-Some-3.wrong c.loop-key.invariant c.in-Some-2.ensures.steps c.as_str.ensures.value
    c.in_ok-wrong.ensures c.in-Some-3.is)

pub returns-clause-told : goal.returns-clause-told
returns-clause-told c = so_last c.loop-key.invariant c.in-None.ensures.steps.0

pub returns-clause-fits : goal.returns-clause-fits
returns-clause-fits c = renaming_fits (view c.args.value.now) None (so_last c.loop-key.invariant c.in-None.ensures.steps.0)
