-- The walks over immediates, by those over their parts.
use Rattle.std.proofs.Common.{◌≡◌, ◌≢◌, ℕ, Bool, true, false, if◌then◌else◌, List, [], ◌∷◌, Some, None, Result, Err, refl, ap}
use Rattle.std.specs.Prelude.{map, IsTrue, IsSome}
use Rattle.wasm_shapes.specs.declared.Space.{Space}
use Rattle.wasm_shapes.specs.declared.Visit.{Visit}
use Rattle.wasm_shapes.specs.Tree.{Tree, visits}
use Rattle.wasm_shapes.specs.Types.{is_core, is_counted, rows_tree, vector_tree}
use Rattle.wasm_types.specs.declared.types.Catch.{Catch}
use Rattle.wasm_types.specs.declared.types.Handle.{Handle}
use Rattle.wasm_read.specs.Immediates.{Imm}
use Rattle.wasm_types.specs.declared.types.Imm.TheVariants as imm
use Rattle.wasm_read.specs.Types.{ValType, val_types_tree}
use Rattle.wasm_read.specs.Immediates as read
use Rattle.reencode_hooks.specs.declared.error.Error.{Error}
use Rattle.reencode_hooks.specs.declared.error.Error.TheVariants.{NoMemory}
use Rattle.reencode_hooks.specs.Run.{Step, accepted, refused, LeavesVisited, NeverWants, Visited}
use Rattle.reencode_hooks.specs.Walk.{walk}
use Rattle.reencode_hooks.proofs.Leaving.{never_wants, refused_visited, visited_left}

-- ---- what an immediate that has a kind stands for

holds : {A : Type 0} (b : Bool) (x : A) → IsSome (if b then Some x else None) → b ≡ true
holds true x h = refl
holds false x h = absurd cc

-- lists of one length are of one kind
pub same_count : {A : Type 0} (x : A) {n m : ℕ} → n ≡ m → (if is_counted n then Some x else None) ≡ (if is_counted m then Some x else None)
same_count x e = ap (λ (n : ℕ). if is_counted n then Some x else None) e

pub of_core : {m : Imm} (s : Space) (i : ℕ) → m ≡ imm.Index s i → IsSome (read.imm_kind m) → is_core s ≡ true
of_core s i e h = holds _ _ (rw e at h)

pub labels_tree : {m : Imm} (ts : List ℕ) (d : ℕ) → m ≡ imm.Labels ts d → IsSome (read.imm_kind m) →
    read.imm_tree m ≡ Tree.pair (vector_tree (map Tree.u32 ts)) (Tree.u32 d)
labels_tree ts d e h = rw (e, holds _ _ (rw e at h)) refl

pub index_tree : {m : Imm} (s : Space) (i : ℕ) → m ≡ imm.Index s i → IsSome (read.imm_kind m) → read.imm_tree m ≡ Tree.ix s i
index_tree s i e h = rw (e, of_core s i e h) refl

pub types_tree : {m : Imm} (ts : List ValType) → m ≡ imm.Types ts → IsSome (read.imm_kind m) → read.imm_tree m ≡ val_types_tree ts
types_tree ts e h = rw (e, holds _ _ (rw e at h)) refl

-- the items stand in a slice
pub catches_tree : {m : Imm} (cs : List Catch) {slice : List Catch} → m ≡ imm.Catches cs → IsSome (read.imm_kind m) → slice ≡ cs → read.imm_tree m ≡ vector_tree (map read.catch_tree slice)
catches_tree cs e h all = rw (all, e, holds _ _ (rw e at h)) refl

pub handlers_tree : {m : Imm} (hs : List Handle) {slice : List Handle} → m ≡ imm.Handlers hs → IsSome (read.imm_kind m) → slice ≡ hs → read.imm_tree m ≡ vector_tree (map read.handle_tree slice)
handlers_tree hs e h all = rw (all, e, holds _ _ (rw e at h)) refl

-- ---- by its part

module _ {S E : Type 0} {m : S} {t : Tree} (asked : S → Visit → Step S (Error E) ℕ) (s : S) (i : Imm) (same : read.imm_tree i ≡ t) where
  -- the part was refused
  pub part_refused : {e : Error E} → ((c : ℕ) → e ≢ NoMemory → walk asked c s t ≡ refused e m) →
      (c : ℕ) → e ≢ NoMemory → walk asked c s (read.imm_tree i) ≡ refused e m
  part_refused step c other = rw same (step c other)

  pub part_left : {A B : Type 0} {e : Error E} {sure : Bool} (r : Result A (Error E)) → ((c : ℕ) → e ≢ NoMemory → walk asked c s t ≡ refused e m) →
      NeverWants {A = B} sure (Err e) → IsTrue sure → LeavesVisited asked s (visits (read.imm_tree i)) m r
  part_left r step never k = visited_left r (rw same (refused_visited 0 t (step 0 (never_wants _ never k))))

  -- a front part of what the part asks was asked
  pub part_visited : {A : Type 0} (r : Result A (Error E)) → Visited asked s (visits t) m → LeavesVisited asked s (visits (read.imm_tree i)) m r
  part_visited r v = visited_left r (rw same v)

  -- the part was accepted
  pub part_accepted : {u : Tree} → ((c : ℕ) → walk asked c s t ≡ accepted u m) → (c : ℕ) → walk asked c s (read.imm_tree i) ≡ accepted u m
  part_accepted step c = rw same (step c)

-- ---- labels

-- labels ask nothing
labels_rows : {S E : Type 0} (asked : S → Visit → Step S (Error E) ℕ) (s : S) (ts : List ℕ) (c : ℕ) →
    walk asked c s (rows_tree (map Tree.u32 ts)) ≡ accepted (rows_tree (map Tree.u32 ts)) s
labels_rows asked s [] c = refl
labels_rows asked s (t ∷ ts) c = rw (labels_rows asked s ts c) refl

pub labels_accept : {S E : Type 0} (asked : S → Visit → Step S (Error E) ℕ) (s : S) (ts : List ℕ) (d c : ℕ) →
    walk asked c s (Tree.pair (vector_tree (map Tree.u32 ts)) (Tree.u32 d)) ≡ accepted (Tree.pair (vector_tree (map Tree.u32 ts)) (Tree.u32 d)) s
labels_accept asked s ts d c = rw (labels_rows asked s ts c) refl
