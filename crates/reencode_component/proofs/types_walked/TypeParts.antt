-- Parts of types: names hold no index and stay as they are, a function stands behind a byte of two, and an index may be one further
-- out.
use Rattle.std.proofs.Common.{◌≡◌, ℕ, Bool, true, false, List, [], ◌∷◌, map, Err, refl}
use Rattle.std.specs.Borrow.{Bor}
use Rattle.wasm_shapes.specs.declared.Space.TheVariants as space
use Rattle.wasm_shapes.specs.declared.Visit.{Visit}
use Rattle.wasm_shapes.specs.declared.Visit.TheVariants.{Outer}
use Rattle.wasm_shapes.specs.Tree.{Tree}
use Rattle.wasm_shapes.specs.Rows.{rows_then}
use Rattle.wasm_shapes.specs.Types.{vector_tree}
use Rattle.wasm_types.specs.ComponentTrees.{func_row, label_tree}
use Rattle.reencode_hooks.specs.declared.error.Error.{Error}
use Rattle.reencode_hooks.specs.declared.indices.ReencodeIndices.{Ghosts}
use Rattle.reencode_hooks.specs.Hooks.{Replies}
use Rattle.reencode_hooks.specs.Run.{NeverWants, Step, accepted}
use Rattle.reencode_hooks.specs.Walk.{walk}
use Rattle.reencode_hooks.proofs.Leaving.{hook_visited}
use Rattle.reencode_component.proofs.rows_walked.PartsWalked.{Ended, Mapped, led_ended, row_ended}

module _ {S E : Type 0} (asked : S → Visit → Step S (Error E) ℕ) (c : ℕ) (s : S) where
  each_kept : (names : List (Bor (List ℕ))) → walk asked c s (rows_then (map label_tree names) Tree.nil) ≡ accepted (rows_then (map label_tree names) Tree.nil) s
  each_kept [] = refl
  each_kept (name ∷ names) = rw (each_kept names) refl

  pub labels_kept : (names : List (Bor (List ℕ))) → walk asked c s (vector_tree (map label_tree names)) ≡ accepted (vector_tree (map label_tree names)) s
  labels_kept names = rw (each_kept names) refl

pub func_ended : {S E : Type 0} {i : Ghosts S E} {s m : S} {t : Tree} {e : Error E} (is_async : Bool) → Ended i s t e m → Ended i s (func_row is_async t) e m
func_ended false gone = row_ended 1 (led_ended 0x40 gone)
func_ended true gone = row_ended 2 (led_ended 0x43 gone)

module _ {S E : Type 0} {i : Ghosts S E} {s : S} where
  pub name_mapped : (bytes : List ℕ) → Mapped i s (Tree.name bytes) (Tree.name bytes) s
  name_mapped bytes = record { walks = λ k c. refl }

  pub outer_ended : {m : S} (count n : ℕ) {e : Error E} → Replies i.reply i.next s m (Outer space.Type_ count n) (Err e) → NeverWants {A = ℕ} i.sure (Err e) →
      Ended i s (Tree.outer space.Type_ count n) e m
  outer_ended count n answer never = record {
    stops = λ k c other. rw (answer other) refl;
    left = λ k sure. hook_visited i.reply i.next (Outer space.Type_ count n) _ answer never sure;
  }
