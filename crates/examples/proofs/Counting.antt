-- A call at the entry of each function body.
use Rattle.std.proofs.Common.{◌≡◌, ◌<◌, ◌≤◌, ◌++◌, ◌∷◌, [], ◌∙◌, subst, ℕ, List, Option, Result, Ok, Err, IsErrAnd, OnOk, true, length, length-append, refl, ap, sym, arith}
use Rattle.std.proofs.Math.Seq.{take-append_seam}
use Rattle.std.proofs.lemmas.List.{append-nil, append_cancel_left}
use Rattle.wasm_shapes.specs.declared.SectionId.{SectionId}
use Rattle.wasm_shapes.specs.declared.Visit.TheVariants.{Section}
use Rattle.wasm_shapes.specs.Module.{row_of}
use Rattle.wasm_shapes.specs.Place.{Begins}
use Rattle.wasm_shapes.specs.Tree.{Tree, fill, normal}
use Rattle.wasm_shapes.specs.Types.{rows_tree, vector_tree}
use Rattle.wasm_read.specs.Operations.{Reading, rest_of}
use Rattle.wasm_read.specs.Reading.{Standing}
use Rattle.wasm_write.specs.declared.fault.WriteFault.{WriteFault}
use Rattle.wasm_write.specs.declared.fault.WriteFault.TheVariants as write
use Rattle.wasm_write.specs.Bodies.{Body, CodeRows, code_tree, function_body, with_operator, with_row}
use Rattle.wasm_write.specs.Faults.{IfTooLarge}
use Rattle.wasm_write.specs.Sections.{Sections, section_row}
use Rattle.reencode_hooks.specs.declared.error.Error.{Error}
use Rattle.reencode_hooks.specs.declared.indices.ReencodeIndices.{Ghosts}
use Rattle.reencode_hooks.specs.declared.rule.ByRule.{ByRule}
use Rattle.reencode_hooks.specs.declared.shift.IndexOverflow.{IndexOverflow}
use Rattle.reencode_hooks.specs.declared.shift.Shift.{Shift}
use Rattle.reencode_hooks.specs.Errors.{error_of_write}
use Rattle.reencode_hooks.specs.Hooks.{RefusesSection, RepliesSection, at_section}
use Rattle.reencode_hooks.specs.Rules.{by_rule}
use Rattle.reencode_hooks.specs.Shifts.{shifted}
use Rattle.reencode_hooks.proofs.Walks.{walk_is_run}
use Rattle.reencode_items.specs.declared.direct.passing.Next.TheVariants as next
use Rattle.reencode_items.specs.Maps.{MovesOn, ParsesOperator}
use Rattle.reencode_core.specs.Clauses.{LocalsClauses, RowsClauses}
use Rattle.reencode_core.specs.Direct.{MapsFront}
use Rattle.reencode_core.specs.Rows.{GivesRows, KeepsFront, locals}
use Rattle.reencode_core.proofs.bodies.EachBody.{body_added}
use Rattle.reencode_core.proofs.rows_walked.RowLoop.{kept_on}
use Rattle.reencode_core.proofs.bodies.BodyFromPlace.{begins_of, front_begun, front_other, here_of, made_of}
use Rattle.examples.specs.Counter.{AddsBehind, AddsEntered, asks_mover, entered, entry_call, entry_due, entry_section, moved, mover}

module _ {S : Type 0} (imports : S → List Tree) (s : S) (old : Sections) (after before : Option SectionId) (due : entry_due after before ≡ true) where
  refuses : (w : WriteFault) → IfTooLarge w (λ size. (size ≡ length (normal (vector_tree (imports s)))) × (old.ceiling < size)) →
      RefusesSection {E = IndexOverflow} (λ (_ : S) v. moved v) (λ k _. k) s s (Section after before) old.ceiling (entry_section (imports s) after before) (error_of_write w)
  refuses (write.TooLarge size) h = record { front = []; row = section_row 2 (normal (vector_tree (imports s))); rest = []; parts = rw due refl; sized = sym h.0; above = h.1 }
  refuses write.NoMemory h = tt

  -- the section of imports was not added
  pub imports_not_added : {new : Sections} (w : WriteFault) → new ≡ old → IfTooLarge w (λ size. (size ≡ length (normal (vector_tree (imports s)))) × (old.ceiling < size)) →
      (r : Result (Unit {0}) (Error IndexOverflow)) → IsErrAnd r (λ e. e ≡ error_of_write w) →
      RepliesSection (λ (_ : S) v. moved v) (λ k _. k) (λ (k : S). at_section (entry_section (imports k)) (λ _. [])) s s old new (Section after before) r
  imports_not_added w same large (Ok _) is = absurd is
  imports_not_added w same large (Err e) is =
      (rw is (refuses w large), record { part = []; rest = entry_section (imports s) after before; parts = refl; gains = same ∙ ap (λ z. record old { sections = z }) (sym (append-nil old.sections)) })

-- ---- what the mover maps

-- what the mover means
abbrev pub hooks : Ghosts (ByRule Shift) IndexOverflow
hooks = record { reply = λ s visit. by_rule (shifted s.rule) visit; next = λ s _. s; adds = λ _ _. []; keeps_defaults = true; adds_nothing = true; sure = true }

module _ (kind : SectionId) (t : Tree) {reader : Standing} {m : ByRule Shift} (old : List Tree) {mid new : List Tree} (r : Result (Unit {0}) (Error IndexOverflow)) (adds : mid ≡ old ++ t ∷ [])
    (given : RowsClauses hooks (row_of kind) reader mover mid m new r) where
  -- what stood there stands there still
  pub kept_behind : KeepsFront old new
  kept_behind = kept_on old mid new (rw adds (take-append_seam old (t ∷ []))) given.kept

  -- a row stands in front of the others
  pub rows_behind : OnOk r (AddsBehind kind t reader old new)
  rows_behind = go r given
    where
      go : (r : Result (Unit {0}) (Error IndexOverflow)) → RowsClauses hooks (row_of kind) reader mover mid m new r → OnOk r (AddsBehind kind t reader old new)
      go (Ok _) all = let P : List Tree → Type 0 = λ z. (c : ℕ) → GivesRows asks_mover c (row_of kind) reader (mover, z) (m, new) (Ok tt) in (m, subst P adds (all.default refl))
      go (Err e) all = tt

-- ---- bodies

-- the locals and the operators so far are mapped, with the call between them
abbrev pub Entering : List ℕ → Reading → Body → ByRule Shift → Type 0
Entering bytes reader f s = (g : Body) × (f ≡ entered g) × MapsFront asks_mover bytes mover reader g s next.Other

pub entering_begun : {bytes : List ℕ} {m : ByRule Shift} {f f' : Body} {reader : Reading} {l : Tree} → LocalsClauses hooks bytes mover m (Ok f) → f' ≡ with_operator f entry_call →
    Begins locals bytes l (rest_of reader) → reader.bytes ≡ bytes → Entering bytes reader f' m
entering_begun {f = f} made adds begins of =
    (f, adds ∙ ap (λ z. record f { operators = z ++ entry_call ∷ [] }) (made.default refl).bare ∙ ap (λ z. record f { operators = entry_call ∷ z }) (sym (made.default refl).bare), front_begun hooks made refl begins of)

pub entering_more : {bytes : List ℕ} {s n : ByRule Shift} {reader behind : Reading} {f f' : Body} {B : Type 0} (view : B → Tree) (b : B) → Entering bytes reader f s →
    ParsesOperator hooks.reply hooks.next s reader view n behind (Ok b) → MovesOn reader behind → f' ≡ with_operator f (view b) → Entering bytes behind f' n
entering_more view b e p taken adds =
    (with_operator e.0 (view b), adds ∙ ap (λ z. with_operator z (view b)) e.1, front_other hooks view b e.2 p taken refl)

-- without the call it is shorter
shorter : (g : Body) → length (normal (function_body g)) ≤ length (normal (function_body (entered g)))
shorter g =
    let locals : List ℕ = normal (vector_tree g.locals) in
    let rest : List ℕ = normal (rows_tree g.operators) in
    omega (arith, length-append locals rest, length-append locals (normal entry_call ++ rest), length-append (normal entry_call) rest)

pub entering_ended : {bytes : List ℕ} {s : ByRule Shift} {reader : Reading} {f : Body} {old new : CodeRows} → Entering bytes reader f s → rest_of reader ≡ [] → new ≡ with_row old (code_tree f) →
    length (normal (function_body f)) ≤ old.ceiling → AddsEntered bytes old new
entering_ended {s = s} {f = f} {old = old} {new = new} e ended adds fits =
    let a = e.2 in
    let size : length (normal (function_body f)) ≡ length (normal (function_body (entered e.0))) = ap (λ z. length (normal (function_body z))) e.1 in
    let small : length (normal (function_body e.0)) ≤ old.ceiling = omega (arith, shorter e.0, size, fits) in
    let given = (body_added hooks old (made_of hooks a) (begins_of hooks a) refl (here_of hooks a) ended {new = with_row old (code_tree e.0)} refl small).default refl in
    let t = given.readable in
    let row = given.reading t.0 t.1 in
    let accepts = (walk_is_run asks_mover).forth old.ceiling mover s (Tree.sized t.0) row.0 row.1 in
    let same : row.0 ∷ [] ≡ code_tree e.0 ∷ [] = sym (append_cancel_left old.rows _ _ row.2) in
    let whole : Tree.sized (fill t.0 accepts.given) ≡ code_tree e.0 = accepts.filled ∙ cc in
    record {
      tree = t.0;
      reading = t.1;
      answers = accepts.given;
      last = s;
      answered = accepts.ran;
      made = e.0;
      filled = cc;
      gains = adds ∙ ap (λ z. with_row old (code_tree z)) e.1;
    }
