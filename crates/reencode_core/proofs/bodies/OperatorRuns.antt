-- The body that runs of operators are a part of.
use Rattle.std.proofs.Common.{◌≡◌, ℕ, List, [], ◌∷◌, ◌++◌, true, Result, Ok, Err, IsErrAnd, IsTrue, refl, sym, ap, ◌∙◌, append_assoc, subst, inr}
use Rattle.wasm_shapes.specs.Rows.{rows_then}
use Rattle.wasm_shapes.specs.Shape.{Shape}
use Rattle.wasm_shapes.specs.Tree.{Tree}
use Rattle.wasm_shapes.specs.Types.{rows_tree, vector_tree}
use Rattle.wasm_shapes.specs.Spells.{Is, Spelled}
use Rattle.wasm_shapes.specs.Place.{Begins}
use Rattle.wasm_read.specs.Operations.{Reading, rest_of}
use Rattle.wasm_write.specs.declared.fault.WriteFault.{WriteFault}
use Rattle.wasm_write.specs.declared.fault.WriteFault.TheVariants as faults
use Rattle.wasm_write.specs.Bodies.{Body, CodeRows}
use Rattle.wasm_write.proofs.HoldingBodies.{many_is, many_spelled}
use Rattle.reencode_hooks.specs.declared.error.Error.{Error}
use Rattle.reencode_hooks.specs.declared.error.Error.TheVariants.{NoMemory}
use Rattle.reencode_hooks.specs.declared.indices.ReencodeIndices.{Ghosts}
use Rattle.reencode_hooks.specs.Errors.{error_of_write}
use Rattle.reencode_hooks.specs.Run.{NeverWants, Step, accepted}
use Rattle.reencode_hooks.specs.Walk.{walk}
use Rattle.reencode_core.specs.Leaves.{Leaves, body_in}
use Rattle.reencode_core.specs.Rows.{Asks, locals, onto_rows}
use Rattle.reencode_items.specs.declared.direct.passing.Next.{Next}
use Rattle.reencode_items.specs.declared.direct.passing.Next.TheVariants as next
use Rattle.reencode_items.specs.Direct.{KeepsOperators, PassesNext, PassesRun, Run, StopsRun}
use Rattle.reencode_items.proofs.Rows.{onto_onto, rows_then-both}
use Rattle.reencode_core.proofs.bodies.BodyLoop.{ManyLeft, OperatorsDone, keeps_code, many_first}
use Rattle.reencode_core.proofs.bodies.EachBody.{BodyClauses, LocalsClauses, OperatorsKept}
use Rattle.reencode_core.proofs.after_error.BodyVisited.{body_leaves_next, body_leaves_none, body_leaves_refused}
use Rattle.reencode_core.proofs.after_error.VisitsMade.{not_wanting, tree_made, wants_tells_none}
use Rattle.reencode_core.proofs.rows_walked.OneRow.{answers, asks}
use Rattle.reencode_core.proofs.bodies.WholeBody.{body_wants, operator_refused}

pub many_front : (rows : List Tree) (text left bytes : List ℕ) → Is (Shape.many (Shape.op true)) (rows_tree rows) → Spelled (rows_tree rows) text → bytes ≡ text ++ left →
    (t : Tree) → ManyLeft bytes t → (others : Tree) × (t ≡ rows_then rows others) × ManyLeft left others
many_front [] text left bytes d p e t r =
    let P : List ℕ → Type 0 = λ z. ManyLeft z t in (t, refl, subst P (e ∙ ap (λ (z : List ℕ). z ++ left) p) r)
many_front (u ∷ rows) text left bytes (Is.cons d d') p e t r =
    let there : Begins (Shape.op true) bytes u (p.1 ++ left) =
    record { text = p.0; spells = record { shaped = d; spelled = p.3 }; reads = e ∙ ap (λ (z : List ℕ). z ++ left) p.2 ∙ append_assoc p.0 p.1 left } in
    let f = many_first there t r in
    let g = many_front rows p.1 left (p.1 ++ left) d' p.4 refl f.0 f.2 in
    (g.0, f.1 ∙ ap (λ (z : Tree). Tree.cons u z) g.1, g.2)

module _ {S E : Type 0} (asked : Asks S E) (c : ℕ) where
  pub operators_many : {start rest left : List ℕ} {s0 s m : S} {made : List Tree} → OperatorsDone asked c start s0 rest s made → (k : KeepsOperators asked s rest left m) →
      OperatorsDone asked c start s0 left m (made ++ k.operators)
  operators_many {rest = rest} {left = left} {m = m} {made = made} d k = record {
    read = d.read ++ k.operators;
    before = record {
      text = d.before.text ++ k.text;
      shaped = many_is d.read k.operators d.before.shaped k.are.shaped;
      spelled = many_spelled d.read k.operators d.before.text k.text d.before.spelled k.are.spelled;
      stands = d.before.stands ∙ ap (λ (z : List ℕ). d.before.text ++ z) k.reads ∙ sym (append_assoc d.before.text k.text left);
    };
    back = λ t r.
        let b = d.back t r in
        let f = many_front k.operators k.text left rest k.are.shaped k.are.spelled k.reads b.0 b.2 in
        (f.0, b.1 ∙ ap (rows_then d.read) f.1 ∙ sym (rows_then-both d.read k.operators f.0), f.2);
    accepts = λ others.
        rw (rows_then-both d.read k.operators others)
        (d.accepts (rows_then k.operators others) ∙ ap (λ (r : Step _ (Error E) Tree). onto_rows made r) (k.walks c others) ∙ onto_onto made k.operators (walk asked c m others));
  }

-- ---- the clauses of the body

module _ {S E : Type 0} (i : Ghosts S E) {bytes : List ℕ} {s0 : S} (old : CodeRows) {m : S} {f0 : Body} (made : LocalsClauses i bytes s0 m (Ok f0)) {start : Reading} {l : Tree}
    (begins : Begins locals bytes l (rest_of start)) {reader : Reading} {s : S} {f : Body} (inv : OperatorsKept i start m f0 reader s f) where
  -- the walk of the locals
  walked : IsTrue i.keeps_defaults → walk (asks i) 0 s0 l ≡ accepted (vector_tree f0.locals) m
  walked k = (made.default k).reading 0 l (rest_of start) begins

  -- an operator is refused behind a run
  pub run_refused : {n : S} (e : Error E) → StopsRun (asks i) s (rest_of reader) e n → NeverWants {A = ℕ} i.sure (Err e) →
      (r : Result (Unit {0}) (Error E)) → IsErrAnd r (λ y. y ≡ e) → BodyClauses i bytes s0 old n old r
  run_refused {n = n} e p sure r q =
      let P : Result (Unit {0}) (Error E) → Type 0 = λ z. BodyClauses i bytes s0 old n old z in
      let d = λ (k : IsTrue i.keeps_defaults) (c : ℕ). operators_many (asks i) c (inv.default k c) p.kept in
      let t = p.stops in
      subst P (answers r q) (record {
        kept = keeps_code old;
        default = λ k. operator_refused i.reply i.next s0 m p.mid f0 (f.operators ++ p.kept.operators) old begins (made.default k) (d k) n e t.operator t.left t.begins t.refuses;
        after_error = λ k told. body_leaves_refused i.reply i.next begins (walked k) (d k 0) e t.begins (t.refuses 0 (not_wanting e sure told));
      })

  -- there is no memory for a run, or for the operator behind it
  pub run_not_added : {n : S} (run : Run) → PassesRun (asks i) s (rest_of reader) n run → (w : WriteFault) → w ≡ faults.NoMemory →
      (r : Result (Unit {0}) (Error E)) → IsErrAnd r (λ y. y ≡ error_of_write w) → BodyClauses i bytes s0 old n old r
  run_not_added {n = n} run p w wants r q =
      let P : Result (Unit {0}) (Error E) → Type 0 = λ z. BodyClauses i bytes s0 old n old z in
      let Q : WriteFault → Type 0 = λ z. BodyClauses i bytes s0 old n old (Err (error_of_write z)) in
      subst P (answers r q) (subst Q (sym wants) (record {
        kept = keeps_code old;
        default = λ k. body_wants (asks i) bytes s0 n old;
        after_error = λ k told. leaves run p k;
      }))
    where
      leaves : (run : Run) → PassesRun (asks i) s (rest_of reader) n run → IsTrue i.keeps_defaults → Leaves (asks i) (body_in bytes) s0 NoMemory n
      leaves run p k = go run.next p.onward
        where
          go : (z : Next) → PassesNext (asks i) p.mid p.left n z → Leaves (asks i) (body_in bytes) s0 NoMemory n
          go (next.Made op fresh len) o =
              body_leaves_next begins (walked k) (operators_many (asks i) 0 (inv.default k 0) p.kept) NoMemory o.there.begins (tree_made (asks i) 0 NoMemory o.there.operator tt (o.walks 0)) (wants_tells_none E)
          go next.Other o =
              let M : S → Type 0 = λ z. Leaves (asks i) (body_in bytes) s0 NoMemory z in
              subst M (sym o) (body_leaves_none begins (walked k) (operators_many (asks i) 0 (inv.default k 0) p.kept) NoMemory (record { by = refl }) (inr (wants_tells_none E)))
