-- The locals of a body as they are mapped.
use Rattle.std.proofs.Common.{◌≡◌, ◌≢◌, ℕ, ◌-◌, ◌^◌, ◌<◌, List, [], ◌∷◌, ◌++◌, length, map, suc, None, Result, Ok, Err, refl, ap, ◌∙◌, subst, arith}
use Rattle.wasm_shapes.specs.declared.Visit.{Visit}
use Rattle.wasm_shapes.specs.Tree.{Tree, count}
use Rattle.wasm_shapes.specs.Place.{Begins}
use Rattle.wasm_shapes.specs.Rows.{rows_then}
use Rattle.wasm_read.specs.Types as read_types
use Rattle.wasm_write.specs.Types as write_types
use Rattle.wasm_read.specs.Immediates as read
use Rattle.wasm_write.specs.Bodies as write
use Rattle.wasm_write.specs.declared.fault.WriteFault.{WriteFault}
use Rattle.wasm_write.specs.declared.fault.WriteFault.TheVariants as faults
use Rattle.wasm_write.specs.Faults.{IfTooLarge}
use Rattle.reencode_hooks.specs.declared.error.Error.{Error}
use Rattle.reencode_hooks.specs.declared.error.Error.TheVariants.{NoMemory}
use Rattle.reencode_hooks.specs.Errors.{error_of_write}
use Rattle.reencode_hooks.specs.Run.{Step, accepted, refused, ask}
use Rattle.reencode_hooks.specs.Walk.{walk}
use Rattle.reencode_core.specs.Rows.{Asks, onto_rows}
use Rattle.reencode_core.specs.Bodies.{GivesLocals}
use Rattle.reencode_core.specs.Rows.{locals}
use Rattle.reencode_core.proofs.faults.WalkRefusals.{unless_wanting, usual_walk, stops_usual}
use Rattle.reencode_core.proofs.rows_walked.TypeGroup.{ItemsDone, rows_then-both}
use Rattle.reencode_core.proofs.bodies.BodyLoop.{same_locals}
use Rattle.std.proofs.lemmas.List.{map-append}

abbrev ReadLocal : Type 0
ReadLocal = ℕ × read_types.ValType

abbrev WrittenLocal : Type 0
WrittenLocal = ℕ × write_types.ValType

module _ {S E : Type 0} (asked : Asks S E) where
  pub local_accepted : (s m : S) (n : ℕ) (x : read_types.ValType) (y : write_types.ValType) → ((c : ℕ) → walk asked c s (read_types.val_type_tree x) ≡ accepted (write_types.val_type_tree y) m) →
      (c : ℕ) → walk asked c s (read.local_tree (n, x)) ≡ accepted (write.local_tree (n, y)) m
  local_accepted s m n x y h c = rw (h c) refl

  local_refused : (c : ℕ) (s m : S) (n : ℕ) (x : read_types.ValType) (e : Error E) → walk asked c s (read_types.val_type_tree x) ≡ refused e m → walk asked c s (read.local_tree (n, x)) ≡ refused e m
  local_refused c s m n x e h = rw h refl

  vec_accepted : (c : ℕ) (s m : S) (t u : Tree) → walk asked c s t ≡ accepted u m → walk asked c s (Tree.vec t) ≡ accepted (Tree.vec u) m
  vec_accepted c s m t u h = rw h refl

  vec_refused : (c : ℕ) (s m : S) (t : Tree) (e : Error E) → walk asked c s t ≡ refused e m → walk asked c s (Tree.vec t) ≡ refused e m
  vec_refused c s m t e h = rw h refl

  pub locals_given : {bytes rest : List ℕ} (types done : List ReadLocal) (made : List WrittenLocal) (s0 s : S) (f : write.Body) → Begins locals bytes (read.locals_tree types) rest →
      ItemsDone asked read.local_tree write.local_tree s0 done s made → done ≡ types → f ≡ record { locals = map write.local_tree made; operators = [] } → GivesLocals asked bytes s0 s (Ok f) (λ f. f)
  locals_given {bytes = bytes} {rest = rest} types done made s0 s f begins d same is = record {
    reading = λ c t rest' there.
        let one = same_locals there begins in
        let P : List ReadLocal → Type 0 = λ z. walk asked c s0 (rows_then (map read.local_tree z) Tree.nil) ≡ accepted (rows_then (map write.local_tree made) Tree.nil) s in
        let rows = subst P same (d.walks c Tree.nil) in
        rw (one.0, is) (vec_accepted c s0 s (rows_then (map read.local_tree types) Tree.nil) (rows_then (map write.local_tree made) Tree.nil) rows);
    bare = ap write.Body.operators is;
    readable = (read.locals_tree types, rest, begins);
    unreadable = tt;
    refusal = tt;
  }

  pub locals_not_made : {bytes rest : List ℕ} (types : List ReadLocal) (n : ℕ) (s0 s : S) (fault : WriteFault) → Begins locals bytes (read.locals_tree types) rest → n ≡ length types →
      IfTooLarge fault (λ size. (size ≡ n) × (2 ^ 32 - 1 < size)) → GivesLocals {A = write.Body} asked bytes s0 s (Err (error_of_write fault)) (λ f. f)
  locals_not_made types n s0 s (faults.TooLarge size) begins counted large =
      let p = begins.spells.spelled in
      let few : count (rows_then (map read.local_tree types) Tree.nil) < 2 ^ 32 = p.3.fits in
      let all : count (rows_then (map read.local_tree types) Tree.nil) ≡ length types = count_map types in
      let same : size ≡ n = large.0 in
      let above : 2 ^ 32 - 1 < size = large.1 in
      absurd (omega arith)
    where
      count_map : (xs : List ReadLocal) → count (rows_then (map read.local_tree xs) Tree.nil) ≡ length xs
      count_map [] = refl
      count_map (x ∷ xs) = ap suc (count_map xs)
  locals_not_made types n s0 s faults.NoMemory begins counted large = record { reading = λ c t rest there other. absurd (other refl); bare = tt; readable = tt; unreadable = tt; refusal = tt }

pub locals_refused : {S E : Type 0} (reply : S → Visit → Result ℕ E) (next : S → Visit → S) {bytes rest : List ℕ} (types done left : List ReadLocal) (made : List WrittenLocal) (s0 s m : S) (x : ReadLocal) (e : Error E) →
    Begins locals bytes (read.locals_tree types) rest → ItemsDone (ask reply next) read.local_tree write.local_tree s0 done s made → done ++ x ∷ left ≡ types →
    ((c : ℕ) → e ≢ NoMemory → walk (ask reply next) c s (read_types.val_type_tree x.1) ≡ refused e m) → GivesLocals {A = write.Body} (ask reply next) bytes s0 m (Err e) (λ f. f)
locals_refused {S = S} {E = E} reply next {bytes = bytes} {rest = rest} types done left made s0 s m x e begins d parts stops = record {
  reading = λ c t rest' there other. let one = same_locals there begins in rw one.0 (whole c other);
  bare = tt;
  readable = tt;
  unreadable = stops_usual _ (walk (ask reply next) 0 s0 (read.locals_tree types)) e m (usual_walk reply next 0 None s0 (read.locals_tree types) begins.text begins.spells.spelled) (whole 0);
  refusal = unless_wanting e (λ other. (read.locals_tree types, rest, begins));
}
  where
    behind : Tree
    behind = rows_then (map read.local_tree left) Tree.nil

    here : rows_then (map read.local_tree (done ++ x ∷ left)) Tree.nil ≡ rows_then (map read.local_tree done) (Tree.cons (read.local_tree x) behind)
    here = ap (λ (ts : List Tree). rows_then ts Tree.nil) (map-append read.local_tree done (x ∷ left)) ∙ rows_then-both (map read.local_tree done) (map read.local_tree (x ∷ left)) Tree.nil

    first : (c : ℕ) → e ≢ NoMemory → walk (ask reply next) c s (Tree.cons (read.local_tree x) behind) ≡ refused e m
    first c other = rw (local_refused (ask reply next) c s m x.0 x.1 e (stops c other)) refl

    whole : (c : ℕ) → e ≢ NoMemory → walk (ask reply next) c s0 (read.locals_tree types) ≡ refused e m
    whole c other =
        let P : List ReadLocal → Type 0 = λ z. walk (ask reply next) c s0 (rows_then (map read.local_tree z) Tree.nil) ≡ refused e m in
        vec_refused (ask reply next) c s0 m (rows_then (map read.local_tree types) Tree.nil) e
        (subst P parts (rw here (d.walks c (Tree.cons (read.local_tree x) behind) ∙ ap (λ (q : Step S (Error E) Tree). onto_rows (map write.local_tree made) q) (first c other))))
