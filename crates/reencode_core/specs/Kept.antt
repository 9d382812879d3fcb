-- Which function bodies of a module stay as they stand under some answers.
use Rattle.std.specs.Prelude.{◌≡◌, ◌⊎◌, ℕ, ◌+◌, ◌-◌, ◌<◌, ◌^◌, List, [], ◌∷◌, ◌++◌, ◌↔◌, length, drop, get_or, true, None}
use Rattle.wasm_leb.specs.Leb.{IsUnsigned}
use Rattle.wasm_shapes.specs.declared.SectionId.TheVariants as id
use Rattle.wasm_shapes.specs.declared.Visit.{Visit}
use Rattle.wasm_shapes.specs.declared.Visit.TheVariants.{Index, Outer}
use Rattle.wasm_shapes.specs.Tree.{Tree, normal, visits, before, after, past, fill}
use Rattle.wasm_shapes.specs.Shape.{Shape}
use Rattle.wasm_shapes.specs.Sound.{sound}
use Rattle.wasm_shapes.specs.Spells.{Spelled, Spells}
use Rattle.wasm_shapes.specs.Fits.{Fits}
use Rattle.wasm_shapes.specs.Module.{alsos, core_header, core_tree, section, tree_of}
use Rattle.reencode_core.specs.Pieces.{Range, range}
use Rattle.reencode_core.specs.Sinks.{KeptOf, NotCode}

-- the visit was answered by the index that it asks; where it asks none, every answer is such
abbrev pub IsOwnAnswer : Visit → ℕ → Type 0
IsOwnAnswer (Index s i) n = n ≡ i
IsOwnAnswer (Outer s c i) n = n ≡ i
IsOwnAnswer _ n = Unit {0}

-- each of these visits was answered by the index that it asks
abbrev pub OwnAnswers : List Visit → List ℕ → Type 0
OwnAnswers [] answers = Unit {0}
OwnAnswers (v ∷ vs) answers = IsOwnAnswer v (get_or answers 0 0) × OwnAnswers vs (drop 1 answers)

-- a tree stays as it is exactly under such answers
abbrev pub FillIsOwn : Type 0
FillIsOwn = (t : Tree) (answers : List ℕ) → (fill t answers ≡ t) ↔ OwnAnswers (visits t) answers

-- The bytes are the normal spelling of their tree, and each of its visits was answered by the index that it asks.
pub record IsKept (bytes : List ℕ) (t : Tree) (answers : List ℕ) : Type 0 where
  pub normally : normal t ≡ bytes
  pub own : OwnAnswers (visits t) answers

-- The normal spelling of a filled tree is the bytes that spelled the tree exactly where these are kept.
abbrev pub SpellingIsKept : Type 0
SpellingIsKept = (s : Shape) (bytes : List ℕ) (t : Tree) (answers : List ℕ) → sound s ≡ true → Spells s bytes t →
    ((k : ℕ) → get_or answers k 0 < 2 ^ 32) → Fits (fill t answers) (2 ^ 32 - 1) → (normal (fill t answers) ≡ bytes) ↔ IsKept bytes t answers

-- ---- the kept bodies of a module

-- a range is kept exactly where the fact holds
abbrev pub KeepsIf : Type 0 → Range → List Range → List Range → Type 0
KeepsIf P r old new = (P × (new ≡ old ++ r ∷ [])) ⊎ ((P → ⊥) × (new ≡ old))

-- The function bodies that stand in their frames in some bytes, the first frame at a place, under these answers to their visits.
-- The range of a body is without its size.
abbrev pub KeptBodies : ℕ → List ℕ → Tree → List ℕ → List Range → List Range → Type 0
KeptBodies at text (Tree.cons t ts) answers old new =
    (number bytes rest : List ℕ) × (b : Tree) × (mid : List Range) × (t ≡ Tree.sized b) × (text ≡ number ++ (bytes ++ rest)) × IsUnsigned 32 number (length bytes) × Spelled b bytes
    × KeepsIf (IsKept bytes b answers) (range (at + length number) (at + length number + length bytes)) old mid
    × KeptBodies (at + length number + length bytes) rest ts (after t answers) mid new
KeptBodies at text Tree.nil answers old new = (text ≡ []) × (new ≡ old)
KeptBodies at text _ answers old new = ⊥

-- those of a code section that stands at a place
pub record KeptInCode (at : ℕ) (x : List ℕ) (t : Tree) (answers : List ℕ) (old new : List Range) : Type 0 where
  pub head : List ℕ
  pub count : List ℕ
  pub text : List ℕ
  pub rows : Tree
  pub is : t ≡ tree_of id.Code (Tree.vec rows)
  pub parts : x ≡ head ++ (count ++ text)
  pub framed : (size : List ℕ) × (head ≡ 10 ∷ size) × IsUnsigned 32 size (length (count ++ text))
  pub counted : (n : ℕ) × IsUnsigned 32 count n
  pub ranges : List Range
  pub inside : KeptBodies (at + length head + length count) text rows answers [] ranges
  pub kept : new ≡ old ++ ranges

-- of the sections that some bytes are, of which the first stands at a place
abbrev pub KeptSections : ℕ → List ℕ → List Tree → List ℕ → List Range → List Range → Type 0
KeptSections at x [] answers old new = (x ≡ []) × (new ≡ old)
KeptSections at x (t ∷ ts) answers old new =
    (y z : List ℕ) × (mid : List Range) × (x ≡ y ++ z) × Spells section y t × (KeptInCode at y t (drop (length (before None t)) answers) old mid ⊎ (NotCode t × (mid ≡ old)))
    × KeptSections (at + length y) z ts (past t (drop (length (before None t)) answers)) mid new

-- the ranges of the function bodies of a module that are spelled normally and each of whose visits was answered by the index asked
pub record Kept (bytes : List ℕ) (t : Tree) (answers : List ℕ) (ranges : List Range) : Type 0 where
  pub read : List Tree
  pub rest : List ℕ
  pub stands : bytes ≡ core_header ++ rest
  pub is : t ≡ core_tree (alsos read Tree.finish)
  pub kept : KeptSections 8 rest read answers [] ranges

-- What is kept by the tree that a module becomes is kept by the answers that make it.
abbrev pub KeptIsAnswered : Type 0
KeptIsAnswered = (bytes : List ℕ) (t : Tree) (answers : List ℕ) (ranges : List Range) → ((k : ℕ) → get_or answers k 0 < 2 ^ 32) → Fits (fill t answers) (2 ^ 32 - 1) →
    KeptOf bytes t (fill t answers) ranges → Kept bytes t answers ranges
