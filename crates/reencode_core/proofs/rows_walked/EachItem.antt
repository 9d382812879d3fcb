-- Vectors whose items are mapped one by one.
use Rattle.std.proofs.Common.{◌≡◌, ℕ, Bool, List, [], ◌∷◌, ◌++◌, map, Result, Ok, Err, IsTrue, refl, ap, ◌∙◌, subst}
use Rattle.std.proofs.lemmas.List.{map-append}
use Rattle.wasm_shapes.specs.declared.Visit.{Visit}
use Rattle.wasm_shapes.specs.Tree.{Tree}
use Rattle.wasm_shapes.specs.Rows.{rows_then}
use Rattle.wasm_shapes.specs.Types.{vector_tree}
use Rattle.reencode_hooks.specs.declared.error.Error.{Error}
use Rattle.reencode_hooks.specs.Hooks.{Replies}
use Rattle.reencode_hooks.specs.Run.{Step, accepted, refused, ask, LeavesVisited, NeverWants}
use Rattle.reencode_hooks.specs.Walk.{walk}
use Rattle.reencode_items.proofs.Leaving.{hook_visited}
use Rattle.reencode_core.specs.Rows.{Asks, onto_rows}
use Rattle.reencode_core.proofs.rows_walked.TypeGroup.{ItemsDone, rows_then-both}

module _ {S E A B : Type 0} (asked : Asks S E) (read : A → Tree) (write : B → Tree) where
  vec_accepted : (c : ℕ) (s m : S) (t u : Tree) → walk asked c s t ≡ accepted u m → walk asked c s (Tree.vec t) ≡ accepted (Tree.vec u) m
  vec_accepted c s m t u h = rw h refl

  vec_refused : (c : ℕ) (s m : S) (t : Tree) (e : Error E) → walk asked c s t ≡ refused e m → walk asked c s (Tree.vec t) ≡ refused e m
  vec_refused c s m t e h = rw h refl

  -- all items were mapped
  pub vector_accepted : {s0 s : S} {made : List B} (done items : List A) → ItemsDone asked read write s0 done s made → done ≡ items →
      (c : ℕ) → walk asked c s0 (vector_tree (map read items)) ≡ accepted (vector_tree (map write made)) s
  vector_accepted {s0 = s0} {s = s} {made = made} done items d same c =
      let P : List A → Type 0 = λ z. walk asked c s0 (rows_then (map read z) Tree.nil) ≡ accepted (rows_then (map write made) Tree.nil) s in
      vec_accepted c s0 s (rows_then (map read items) Tree.nil) (rows_then (map write made) Tree.nil) (subst P same (d.walks c Tree.nil))

  -- the next item was refused
  pub vector_refused : {s0 s m : S} {made : List B} (done rest items : List A) (x : A) (e : Error E) → ItemsDone asked read write s0 done s made → done ++ x ∷ rest ≡ items →
      (c : ℕ) → walk asked c s (read x) ≡ refused e m → walk asked c s0 (vector_tree (map read items)) ≡ refused e m
  vector_refused {s0 = s0} {s = s} {m = m} {made = made} done rest items x e d parts c stops =
      let behind : Tree = rows_then (map read rest) Tree.nil in
      let here : rows_then (map read (done ++ x ∷ rest)) Tree.nil ≡ rows_then (map read done) (Tree.cons (read x) behind) =
      ap (λ (ts : List Tree). rows_then ts Tree.nil) (map-append read done (x ∷ rest)) ∙ rows_then-both (map read done) (map read (x ∷ rest)) Tree.nil in
      let first : walk asked c s (Tree.cons (read x) behind) ≡ refused e m = rw stops refl in
      let P : List A → Type 0 = λ z. walk asked c s0 (rows_then (map read z) Tree.nil) ≡ refused e m in
      vec_refused c s0 m (rows_then (map read items) Tree.nil) e
      (subst P parts (rw here (d.walks c (Tree.cons (read x) behind) ∙ ap (λ (q : Step S (Error E) Tree). onto_rows (map write made) q) first)))

-- an item that is one index
pub hook_leaves : {S E : Type 0} (reply : S → Visit → Result ℕ E) (next : S → Visit → S) (s m : S) {sure : Bool} (v : Visit) (r : Result ℕ (Error E)) →
    Replies reply next s m v r → NeverWants sure r → IsTrue sure → LeavesVisited (ask reply next) s (v ∷ []) m r
hook_leaves reply next s m v (Ok n) answer never k = tt
hook_leaves reply next s m v (Err e) answer never k = hook_visited reply next v e answer never k
