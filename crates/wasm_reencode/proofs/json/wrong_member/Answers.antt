use Rattle.std.proofs.Common.{codes, string_bytes, sym}
use Rattle.std.proofs.lemmas.Result.{IfOk-weaker}
use Rattle.serde_json.specs.View.{members_view}
use Rattle.wasm_reencode.specs.Json.{TellsMember}
use Rattle.wasm_reencode.proofs.Wrong.{of_whole, space_key, strict_key}
use Rattle.wasm_reencode.proofs.json.wrong_member.Goals as goal

pub returns-in-Some : goal.returns-in-Some
returns-in-Some c = TellsMember.strict c.in-Some.field-0 (strict_key c.args.key.now c.eq.result c.eq.ensures c.if-eq.true) (sym c.in-Some.ensures)

pub returns-in_ok-format-in-None : goal.returns-in_ok-format-in-None
returns-in_ok-format-in-None c =
    TellsMember.no_flag (strict_key c.args.key.now c.eq.result c.eq.ensures c.if-eq.true) (sym c.in-None.ensures)
    (of_whole c.args.key.now (codes ": neither true nor false") (string_bytes c.in_ok-format-in-None.field-0) c.in_ok-format-in-None.ensures.ok)

pub returns-in-Some-Some : goal.returns-in-Some-Some
returns-in-Some-Some c =
    IfOk-weaker c.wrong_entries.result _ _
    (λ wrong told. TellsMember.entries c.in-Some-Some.field-0-0 (members_view c.in-Some-Some.entries.now.entries) (space_key c.args.key.now c.eq.result c.eq.ensures c.if-eq.false)
    (sym c.in-Some-Some.ensures) (sym c.in-Some-Some.ensures') told)
    c.wrong_entries.ensures

pub returns-in_ok-format-in-Some-None : goal.returns-in_ok-format-in-Some-None
returns-in_ok-format-in-Some-None c =
    TellsMember.no_object c.in-Some-None.field-0-0 (space_key c.args.key.now c.eq.result c.eq.ensures c.if-eq.false) (sym c.in-Some-None.ensures) (sym c.in-Some-None.ensures')
    (of_whole c.args.key.now (codes ": no object") (string_bytes c.in_ok-format-in-Some-None.field-0) c.in_ok-format-in-Some-None.ensures.ok)

pub returns-in_ok-format-in-None-default : goal.returns-in_ok-format-in-None-default
returns-in_ok-format-in-None-default c =
    TellsMember.no_space (space_key c.args.key.now c.eq.result c.eq.ensures c.if-eq.false) (sym c.in-None-default.ensures)
    (of_whole c.args.key.now (codes ": no space") (string_bytes c.in_ok-format-in-None-default.field-0) c.in_ok-format-in-None-default.ensures.ok)
