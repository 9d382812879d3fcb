-- Immediates of some kinds, one by one.
use Rattle.std.specs.List.{list_all}
use Rattle.std.proofs.Common.{◌≡◌, ℕ, zero, suc, get_or, List, [], ◌∷◌, ◌++◌, ◌<◌, ◌+◌, length, length-append, true, refl, sym, ap, ◌∙◌, append_assoc, append-nil, arith, ◌^◌, map, Some, subst, if◌then◌else◌}
use Rattle.std.proofs.lemmas.Bool.{lt-ltb}
use Rattle.wasm_shapes.specs.declared.ImmKind.{ImmKind}
use Rattle.wasm_shapes.specs.declared.ImmKind.TheVariants as kind
use Rattle.wasm_shapes.specs.Operators.{Code, kinds_among}
use Rattle.wasm_shapes.specs.Tree.{Tree}
use Rattle.wasm_shapes.specs.Shape.{Shape, closed, shape_of_kind, shape_of_kinds}
use Rattle.wasm_shapes.specs.Sound.{sound}
use Rattle.wasm_shapes.specs.Spells.{Is, Spelled}
use Rattle.wasm_shapes.specs.Place.{Begins, BeginsNone}
use Rattle.wasm_shapes.proofs.Begins.{begins_empty, begins_byte, at_byte, begins_seq, none_seq_first, none_seq_second}
use Rattle.wasm_shapes.proofs.Lists.{both}
use Rattle.wasm_shapes.proofs.TableRows.{kinds_pass}
use Rattle.wasm_read.specs.Immediates.{Imm, imm_tree, imms_tree, imm_kind, is_counted}
use Rattle.wasm_read.specs.Operations.{is_core_kind, AreCore}

-- no spelling of an immediate begins another of its kind
kind_sound : (k : ImmKind) → (sound (shape_of_kind k) ≡ true) × (closed (shape_of_kind k) ≡ true)
kind_sound kind.Block = (refl, refl)
kind_sound _ = (refl, refl)

-- The immediates so far, and any of the kinds that are due behind them, are those of all the kinds; and there are none of
-- all the kinds where none of those that are due begin behind them.
pub record ImmsSoFar (kinds : List ImmKind) (bytes : List ℕ) (imms : List Imm) (due : List ImmKind) (rest : List ℕ) : Type 0 where
  pub begins : (others : List Imm) (left : List ℕ) → Begins (shape_of_kinds due) rest (imms_tree others) left →
      Begins (shape_of_kinds kinds) bytes (imms_tree (imms ++ others)) left
  pub kinded : (others : List Imm) → map imm_kind others ≡ map Some due → map imm_kind (imms ++ others) ≡ map Some kinds
  pub stuck : BeginsNone (shape_of_kinds due) rest → BeginsNone (shape_of_kinds kinds) bytes

pub no_imms_yet : (kinds : List ImmKind) (bytes : List ℕ) → ImmsSoFar kinds bytes [] kinds bytes
no_imms_yet kinds bytes = record { begins = λ others left p. p; kinded = λ others p. p; stuck = λ none. none }

-- a kind is due, and others behind it
so_far_of : {kinds due others : List ImmKind} {bytes rest : List ℕ} {imms : List Imm} {k : ImmKind} → due ≡ k ∷ others → ImmsSoFar kinds bytes imms due rest →
    ImmsSoFar kinds bytes imms (k ∷ others) rest
so_far_of {kinds = kinds} {bytes = bytes} {rest = rest} {imms = imms} e so_far =
    let S : List ImmKind → Type 0 = λ ds. ImmsSoFar kinds bytes imms ds rest in subst S e so_far

pub one_imm_more : {kinds due others : List ImmKind} {bytes rest left : List ℕ} (imms : List Imm) (k : ImmKind) (m : Imm) → due ≡ k ∷ others →
    ImmsSoFar kinds bytes imms due rest → Begins (shape_of_kind k) rest (imm_tree m) left → imm_kind m ≡ Some k →
    ImmsSoFar kinds bytes (imms ++ m ∷ []) others left
one_imm_more imms k m e before there same =
    let so_far = so_far_of e before in
    record {
      begins = λ others left p. rw (append_assoc imms (m ∷ []) others) (so_far.begins (m ∷ others) left (begins_seq there p));
      kinded = λ others p. rw (append_assoc imms (m ∷ []) others) (so_far.kinded (m ∷ others) (rw (same, p) refl));
      stuck = λ none. so_far.stuck (none_seq_second (kind_sound k).0 (kind_sound k).1 there none);
    }

pub no_imm : {kinds due others : List ImmKind} {bytes rest : List ℕ} {imms : List Imm} {k : ImmKind} → due ≡ k ∷ others → ImmsSoFar kinds bytes imms due rest →
    BeginsNone (shape_of_kind k) rest → BeginsNone (shape_of_kinds kinds) bytes
no_imm e so_far none = (so_far_of e so_far).stuck (none_seq_first none)

-- none is due
pub imms_ended : {kinds due : List ImmKind} {bytes rest : List ℕ} (imms : List Imm) → due ≡ [] → ImmsSoFar kinds bytes imms due rest →
    Begins (shape_of_kinds kinds) bytes (imms_tree imms) rest × (map imm_kind imms ≡ map Some kinds)
imms_ended {kinds = kinds} {bytes = bytes} {rest = rest} imms e before =
    let S : List ImmKind → Type 0 = λ ds. ImmsSoFar kinds bytes imms ds rest in
    let so_far : ImmsSoFar kinds bytes imms [] rest = subst S e before in
    let whole = so_far.begins [] rest begins_empty in
    let fit = so_far.kinded [] refl in
    (rw (append-nil imms) at whole, rw (append-nil imms) at fit)

pub core_of : {due others : List ImmKind} {k : ImmKind} → due ≡ k ∷ others → AreCore due → (is_core_kind k ≡ true) × AreCore others
core_of e p = subst AreCore e p

-- ---- the rows of the tables

all_core : (ks : List ImmKind) → list_all is_core_kind ks ≡ true → AreCore ks
all_core [] e = tt
all_core (k ∷ ks) e = let parts : (is_core_kind k ≡ true) × (list_all is_core_kind ks ≡ true) = both _ _ e in (parts.0, all_core ks parts.1)

-- no row has an index of a space that core modules do not have
pub kinds_core : (c : Code) (ks : List ImmKind) → kinds_among true c ≡ Some ks → AreCore ks
kinds_core c ks e = all_core ks (kinds_pass is_core_kind refl c ks e)

-- what begins here is some tree
pub passed : {s : Shape} {t : Tree} {bytes left : List ℕ} → Begins s bytes t left → (u : Tree) × Begins s bytes u left
passed {t = t} p = (t, p)

-- the immediates of some kinds, by the first and the others
module _ {kinds others : List ImmKind} {k : ImmKind} {bytes : List ℕ} (e : kinds ≡ k ∷ others) where
  pub imms_passed : {middle left : List ℕ} → (t : Tree) × Begins (shape_of_kind k) bytes t middle → (t : Tree) × Begins (shape_of_kinds others) middle t left →
      (t : Tree) × Begins (shape_of_kinds kinds) bytes t left
  imms_passed {left = left} p q =
      let B : List ImmKind → Type 0 = λ ks. (t : Tree) × Begins (shape_of_kinds ks) bytes t left in
      subst B (sym e) (passed (begins_seq p.1 q.1))

  pub no_first_imm : BeginsNone (shape_of_kind k) bytes → BeginsNone (shape_of_kinds kinds) bytes
  no_first_imm none = let N : List ImmKind → Type 0 = λ ks. BeginsNone (shape_of_kinds ks) bytes in subst N (sym e) (none_seq_first none)

  pub no_other_imms : {middle : List ℕ} → (t : Tree) × Begins (shape_of_kind k) bytes t middle → BeginsNone (shape_of_kinds others) middle →
      BeginsNone (shape_of_kinds kinds) bytes
  no_other_imms p none =
      let N : List ImmKind → Type 0 = λ ks. BeginsNone (shape_of_kinds ks) bytes in
      subst N (sym e) (none_seq_second (kind_sound k).0 (kind_sound k).1 p.1 none)

pub no_imms_passed : {kinds : List ImmKind} {bytes : List ℕ} → kinds ≡ [] → (t : Tree) × Begins (shape_of_kinds kinds) bytes t bytes
no_imms_passed {bytes = bytes} e =
    let B : List ImmKind → Type 0 = λ ks. (t : Tree) × Begins (shape_of_kinds ks) bytes t bytes in
    subst B (sym e) (passed begins_empty)

-- ---- single kinds

pub begins_zero : {b : ℕ} {bytes left : List ℕ} → bytes ≡ b ∷ left → b ≡ 0 → Begins (Shape.fixed 0) bytes (Tree.fixed 0) left
begins_zero here is = begins_byte (at_byte here is)

pub begins_lane : {b : ℕ} {bytes left : List ℕ} → b < 256 → bytes ≡ b ∷ left → Begins Shape.byte bytes (Tree.byte b) left
begins_lane {b = b} small e = record { text = b ∷ []; spells = record { shaped = Is.byte; spelled = (refl, small) }; reads = e }

pub begins_bytes : {n : ℕ} {bytes text left : List ℕ} → bytes ≡ text ++ left → length text ≡ n → Begins (Shape.bytes n) bytes (Tree.raw text) left
begins_bytes {text = text} e l = record { text = text; spells = record { shaped = Is.bytes l; spelled = refl }; reads = e }

pub none_bytes : {n : ℕ} {bytes : List ℕ} → length bytes < n → BeginsNone (Shape.bytes n) bytes
none_bytes {n = n} {bytes = bytes} short = record { none = λ text left tree p e. go text left tree p.shaped p.spelled e }
  where
    go : (text left : List ℕ) (tree : Tree) → Is (Shape.bytes n) tree → Spelled tree text → bytes ≡ text ++ left → ⊥
    go text left tree (Is.bytes {bs = bs} l) p e =
        let same : text ≡ bs = p in
        let long : length text ≡ length bs = ap length same in
        let parts : length bytes ≡ length text + length left = ap length e ∙ length-append text left in
        omega arith

-- what holds of each byte holds of those at the front
pub bytes_fit : (bytes text left : List ℕ) → bytes ≡ text ++ left → ((i : ℕ) → get_or bytes i 0 < 256) → (i : ℕ) → get_or text i 0 < 256
bytes_fit bytes [] left e fits i = omega arith
bytes_fit [] (b ∷ text) left e fits i = absurd cc
bytes_fit (a ∷ bytes) (b ∷ text) left e fits zero = let same : a ≡ b = cc in let first = fits 0 in omega arith
bytes_fit (a ∷ bytes) (b ∷ text) left e fits (suc i) =
    let others : (k : ℕ) → get_or bytes k 0 < 256 = λ k. fits (suc k) in
    let behind : bytes ≡ text ++ left = cc in
    bytes_fit bytes text left behind others i

pub same_bytes : {n : ℕ} {bytes text other left : List ℕ} → other ≡ text → Begins (Shape.bytes n) bytes (Tree.raw text) left →
    Begins (Shape.bytes n) bytes (Tree.raw other) left
same_bytes {n = n} {bytes = bytes} {left = left} e p = let B : List ℕ → Type 0 = λ z. Begins (Shape.bytes n) bytes (Tree.raw z) left in subst B (sym e) p

pub raw_reads : {n : ℕ} {bytes text left : List ℕ} → Begins (Shape.bytes n) bytes (Tree.raw text) left → bytes ≡ text ++ left
raw_reads {text = text} {left = left} p = let same : p.text ≡ text = p.spells.spelled in p.reads ∙ ap (λ (z : List ℕ). z ++ left) same

-- ---- lists whose count has a spelling

counted_test : (n : ℕ) → n < 2 ^ 32 → is_counted n ≡ true
counted_test n small = lt-ltb n (2 ^ 32) small

-- what stands for a list with such a count
pub counted_tree : (n : ℕ) (t u : Tree) → n < 2 ^ 32 → (if is_counted n then t else u) ≡ t
counted_tree n t u small = rw (counted_test n small) refl
