-- Runs of operators that stay as they stand.
use Rattle.std.proofs.Common.{◌≡◌, ◌<◌, ◌+◌, ◌-◌, ℕ, List, [], ◌∷◌, ◌++◌, length, length-append, refl, sym, ap, ap₂, ◌∙◌, drop, take, append_assoc, subst, arith}
use Rattle.std.proofs.Math.Seq.{drop-append_seam, take-append_seam}
use Rattle.wasm_shapes.specs.Tree.{Tree}
use Rattle.wasm_shapes.specs.Spells.{Is}
use Rattle.wasm_shapes.proofs.Rows.{rows_then-append}
use Rattle.wasm_read.proofs.Codes.{fewer_left}
use Rattle.wasm_write.specs.Bodies.{AreOperators, HasOperators}
use Rattle.wasm_shapes.proofs.Rows.{snoc_is, snoc_spelled}
use Rattle.wasm_write.proofs.Holding.{snoc_normal}
use Rattle.reencode_hooks.specs.declared.error.Error.{Error}
use Rattle.reencode_hooks.specs.Run.{Step, accepted, and_then}
use Rattle.reencode_hooks.specs.Walk.{walk}
use Rattle.reencode_items.specs.Rows.{Asks, onto_rows}
use Rattle.reencode_items.specs.declared.direct.passing.Next.{Next}
use Rattle.reencode_items.specs.declared.direct.passing.Next.TheVariants as next
use Rattle.reencode_items.specs.Direct.{IsWithin, KeepsOperator, KeepsOperators, PassesNext, PassesRun, RefusesOperator, StopsRun}
use Rattle.reencode_items.proofs.Rows.{one_onto, onto_nothing}

pub no_run : {S E : Type 0} (asked : Asks S E) (s : S) (bytes : List ℕ) → KeepsOperators asked s bytes bytes s
no_run asked s bytes = record {
  operators = [];
  text = [];
  reads = refl;
  are = record { shaped = Is.nil; spelled = refl; normally = refl };
  walks = λ c others. onto_nothing (walk asked c s others);
}

pub no_run_counted : {S E : Type 0} (asked : Asks S E) (s : S) (bytes : List ℕ) → length (no_run asked s bytes).text ≡ 0
unfolding no_run
no_run_counted asked s bytes = refl

module _ {S E : Type 0} {asked : Asks S E} {s m : S} {bytes left : List ℕ} (n : ℕ) (d : KeepsOperators asked s bytes left m) (counted : length d.text ≡ n) where
  -- what stands behind so many bytes
  pub run_left : drop n bytes ≡ left
  run_left = rw (d.reads, sym counted) (drop-append_seam d.text left)

  pub run_taken : take n bytes ≡ d.text
  run_taken = rw (d.reads, sym counted) (take-append_seam d.text left)

-- how many bytes they are
pub run_counted : {S E : Type 0} {asked : Asks S E} {s m : S} {bytes left : List ℕ} (d : KeepsOperators asked s bytes left m) → length bytes ≡ length d.text + length left
run_counted {left = left} d = ap length d.reads ∙ length-append d.text left

-- fewer bytes stand behind an operator
pub fewer_behind : {S E : Type 0} {asked : Asks S E} {s m : S} {bytes left : List ℕ} → KeepsOperator asked s bytes left m → length left < length bytes
fewer_behind q = fewer_left refl q.begins

pub run_more : {S E : Type 0} (asked : Asks S E) {s0 s m : S} {bytes rest left : List ℕ} → KeepsOperators asked s0 bytes rest s → KeepsOperator asked s rest left m →
    KeepsOperators asked s0 bytes left m
run_more {E = E} asked {s = s} {m = m} {left = left} d q =
    let t = q.operator in
    let b = q.begins in
    record {
      operators = d.operators ++ t ∷ [];
      text = d.text ++ b.text;
      reads = d.reads ∙ ap (λ (z : List ℕ). d.text ++ z) b.reads ∙ sym (append_assoc d.text b.text left);
      are = record {
        shaped = snoc_is d.operators d.are.shaped b.spells.shaped;
        spelled = snoc_spelled d.operators t d.text b.text d.are.spelled b.spells.spelled;
        normally = snoc_normal d.operators t ∙ ap₂ (λ (y z : List ℕ). y ++ z) d.are.normally (sym q.normally);
      };
      walks = λ c others.
          let step : walk asked c s (Tree.cons t others) ≡ and_then (walk asked c m others) (λ u n. accepted (Tree.cons t u) n) = rw (q.walks c) refl in
          rw (rows_then-append d.operators t others)
          (d.walks c (Tree.cons t others) ∙ ap (λ (r : Step _ (Error E) Tree). onto_rows d.operators r) step ∙ one_onto d.operators t (walk asked c m others));
    }

-- the next operator does not stay
pub run_ends : {S E : Type 0} (asked : Asks S E) {s0 s m : S} {bytes rest : List ℕ} (next : Next) → KeepsOperators asked s0 bytes rest s → PassesNext asked s rest m next →
    PassesRun asked s0 bytes m (record { kept = length bytes - length rest; next = next })
run_ends asked {s = s} {bytes = bytes} {rest = rest} next d q =
    let long : length bytes ≡ length d.text + length rest = run_counted d in
    record { mid = s; left = rest; kept = d; counted = omega arith; onward = q }

-- the next operator is refused
pub run_stops : {S E : Type 0} (asked : Asks S E) {s0 s m : S} {bytes rest : List ℕ} (e : Error E) → KeepsOperators asked s0 bytes rest s → RefusesOperator asked s rest e m →
    StopsRun asked s0 bytes e m
run_stops asked {s = s} {rest = rest} e d q = record { mid = s; left = rest; kept = d; stops = q }

-- where the next operator stands
pub next_within : {S E : Type 0} {asked : Asks S E} {s m : S} {bytes : List ℕ} (n : ℕ) (next : Next) → PassesRun asked s bytes m (record { kept = n; next = next }) →
    IsWithin n next (length bytes)
next_within {bytes = bytes} n next.Other p =
    let long : length bytes ≡ length p.kept.text + length p.left = run_counted p.kept in
    let first : length p.kept.text ≡ n = p.counted in
    omega arith
next_within {bytes = bytes} n (next.Made op f k) p =
    let q = p.onward in
    let b = q.there.begins in
    let long : length bytes ≡ length p.kept.text + length p.left = run_counted p.kept in
    let behind : length p.left ≡ length b.text + length q.there.left = ap length b.reads ∙ length-append b.text q.there.left in
    let first : length p.kept.text ≡ n = p.counted in
    let second : length b.text ≡ k = q.there.counted in
    let fewer : length q.there.left < length p.left = fewer_left refl b in
    (omega arith, omega arith)

module _ {S E : Type 0} {asked : Asks S E} {s m : S} {bytes : List ℕ} {n : ℕ} {next : Next} (p : PassesRun asked s bytes m (record { kept = n; next = next })) where
  -- the bytes that were added
  pub run_added : AreOperators (take n bytes) p.kept.operators
  run_added = let P : List ℕ → Type 0 = λ z. AreOperators z p.kept.operators in subst P (sym (run_taken n p.kept p.counted)) p.kept.are

  pub run_has : HasOperators (take n bytes)
  run_has = (p.kept.operators, run_added)
