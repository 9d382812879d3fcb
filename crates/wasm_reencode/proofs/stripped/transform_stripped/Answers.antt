use Rattle.std.proofs.Common.{◌≡◌, ◌≢◌, ◌⊎◌, inl, inr, refl, ◌++◌, ℕ, List, [], Option, None, Some, ap, sym, subst, ◌∙◌}
use Rattle.reencode_run.specs.Answer.{IsDecided, output_of}
use Rattle.reencode_run.specs.Outside.{Rose, TookFront, WhereTold, followed}
use Rattle.reencode_run.specs.Requests.{job_of}
use Rattle.wasm_strip.specs.Tidied.{IsTidied}
use Rattle.wasm_strip.specs.Faults.{HasNone, IsWhy}
use Rattle.wasm_reencode.proofs.StripDecides.{decided_by}
use Rattle.wasm_reencode.proofs.StripEnds.{command_by, made_unwritten, other_sink, status_by, strip_by}
use Rattle.wasm_reencode.proofs.stripped.transform_stripped.Goals as goal

-- what is told to be held
abbrev told : Option (List ℕ) → List ℕ
told None = []
told (Some bytes) = bytes

-- a status that is not that of the sink says nothing of it
kept_sink : (s : ℕ) (V W : Type 0) → s ≢ 4 → (s ≡ 0) ⊎ ((s ≡ 4) × V) → (s ≡ 0) ⊎ ((s ≡ 4) × W)
kept_sink s V W other (inl e) = inl e
kept_sink s V W other (inr h) = absurd (other h.0)

pub returns-in-Err-clause-ends : goal.returns-in-Err-clause-ends
returns-in-Err-clause-ends g c =
    let ends = c.in-Err.ensures.ends in
    let held = g.K.Sink.held c.args.out.now in
    let faults = g.K.Sink.faults c.args.out.now in
    command_by c.in-Err.status _ _ c.unmade.ensures (λ other. (ends.0, ends.1, other_sink held held faults faults c.in-Err.ensures.stopped other ends.2, ends.3, ends.4))

pub returns-in-Err-clause-decided : goal.returns-in-Err-clause-decided
returns-in-Err-clause-decided g c =
    let shelf = Rose (g.F.Shelf.faults c.args.shelf.now) (g.F.Shelf.faults c.transform.new.shelf) in
    let source = Rose (g.S.Source.faults c.args.input.now) (g.S.Source.faults c.transform.new.input) in
    let sink = Rose (g.K.Sink.faults c.args.out.now) (g.K.Sink.faults c.args.out.now) in
    let texts = g.F.Shelf.texts c.args.shelf.now in
    let left = g.S.Source.left c.args.input.now in
    let job = job_of c.args.request in
    let status = c.in-Err.status in
    status_by status _ (λ n. IsDecided shelf source sink (Some job) texts left n) c.unmade.ensures
    (λ four. decided_by shelf source _ sink status 0 (λ n other e. absurd (other.1 (sym e ∙ four))) (λ h. inl refl) job texts left c.in-Err.ensures.decided)
    (λ other. decided_by shelf source _ sink status status (λ n more e. e) (kept_sink status _ sink other) job texts left c.in-Err.ensures.decided)

pub returns-in-Err-clause-unstripped : goal.returns-in-Err-clause-unstripped
returns-in-Err-clause-unstripped g c = strip_by c.in-Err.status _ _ c.unmade.ensures (λ four. (made_unwritten (rw four at c.in-Err.ensures.ends.2), tt, tt))

pub returns-in-Err-tidy-clause-unstripped : goal.returns-in-Err-tidy-clause-unstripped
returns-in-Err-tidy-clause-unstripped g c =
    let given = c.in-Ok.ensures.written in
    let whole : c.new.result.items ++ output_of given.0 ≡ c.transform.new.out.bytes.items = ap told given.1 in
    let made : c.as_slice.result.now ≡ output_of given.0 = c.as_slice.ensures.value ∙ sym whole ∙ ap (λ (z : List ℕ). z ++ output_of given.0) c.new.ensures.items in
    let P : List ℕ → Type 0 = λ z. IsWhy z c.in-Err-tidy.fault in
    let Q : List ℕ → Type 0 = λ z. HasNone z c.in-Err-tidy.fault in
    (given.0, subst P made c.in-Err-tidy.ensures.err, subst Q made c.in-Err-tidy.ensures.none)

pub returns-in-Err-tidy-clause-decided : goal.returns-in-Err-tidy-clause-decided
returns-in-Err-tidy-clause-decided g c =
    decided_by _ _ _ _ 0 0 (λ n other e. e) (λ h. inl refl) (job_of c.args.request) (g.F.Shelf.texts c.args.shelf.now) (g.S.Source.left c.args.input.now) c.in-Ok.ensures.decided

pub returns-in-Ok-write_all-clause-written : goal.returns-in-Ok-write_all-clause-written
returns-in-Ok-write_all-clause-written g c =
    let given = c.in-Ok.ensures.written in
    let whole : c.new.result.items ++ output_of given.0 ≡ c.transform.new.out.bytes.items = ap told given.1 in
    let made : c.as_slice.result.now ≡ output_of given.0 = c.as_slice.ensures.value ∙ sym whole ∙ ap (λ (z : List ℕ). z ++ output_of given.0) c.new.ensures.items in
    let P : List ℕ → Type 0 = λ z. IsTidied (g.N.StripRule.removed c.args.rule.now) c.args.sorts z c.in-Ok-tidy.bytes.items in
    let Q : List ℕ → Type 0 = λ z. WhereTold (g.K.Sink.held c.write_all.new.out) (followed (g.K.Sink.held c.args.out.now) z) in
    (given.0, c.in-Ok-tidy.bytes.items, subst P made c.in-Ok-tidy.ensures.ok, subst Q c.as_slice-2.ensures.value c.in-Ok-write_all.ensures.ok, given.2)

pub returns-in-Ok-write_all-clause-decided : goal.returns-in-Ok-write_all-clause-decided
returns-in-Ok-write_all-clause-decided g c =
    decided_by _ _ _ _ 0 0 (λ n other e. e) (λ h. inl refl) (job_of c.args.request) (g.F.Shelf.texts c.args.shelf.now) (g.S.Source.left c.args.input.now) c.in-Ok.ensures.decided

pub returns-clause-failed : goal.returns-clause-failed
returns-clause-failed g c =
    let given = c.in-Ok.ensures.written in
    let whole : c.new.result.items ++ output_of given.0 ≡ c.transform.new.out.bytes.items = ap told given.1 in
    let made : c.as_slice.result.now ≡ output_of given.0 = c.as_slice.ensures.value ∙ sym whole ∙ ap (λ (z : List ℕ). z ++ output_of given.0) c.new.ensures.items in
    let P : List ℕ → Type 0 = λ z. IsTidied (g.N.StripRule.removed c.args.rule.now) c.args.sorts z c.in-Ok-tidy.bytes.items in
    let Q : List ℕ → Type 0 = λ z. TookFront (g.K.Sink.held c.args.out.now) (g.K.Sink.held c.write_all.new.out) z in
    (given.0, c.in-Ok-tidy.bytes.items, subst P made c.in-Ok-tidy.ensures.ok, subst Q c.as_slice-2.ensures.value c.in-Err-write_all.ensures.front, c.in-Err-write_all.ensures.failed)

pub returns-clause-decided : goal.returns-clause-decided
returns-clause-decided g c =
    decided_by _ _ _ _ 0 4 (λ n other e. absurd (other.0 (sym e))) (λ h. inr (refl, c.in-Err-write_all.ensures.failed)) (job_of c.args.request) (g.F.Shelf.texts c.args.shelf.now)
    (g.S.Source.left c.args.input.now) c.in-Ok.ensures.decided
