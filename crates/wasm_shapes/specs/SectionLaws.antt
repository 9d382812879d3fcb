-- The laws of the sections of a core module (WebAssembly Core Specification 3.0, section 5.5.2).
use Rattle.std.specs.Prelude.{◌≡◌, ℕ, ◌≤◌, List, ◌∷◌, ◌++◌, length}
use Rattle.wasm_leb.specs.Leb.{IsUnsigned, leb}
use Rattle.wasm_shapes.specs.declared.SectionId.{SectionId}
use Rattle.wasm_shapes.specs.Tree.{Tree, normal}
use Rattle.wasm_shapes.specs.Shape.{Shape}
use Rattle.wasm_shapes.specs.Spells.{Spells}
use Rattle.wasm_shapes.specs.Place.{Begins, BeginsNone}
use Rattle.wasm_shapes.specs.SectionTable.{number}
use Rattle.wasm_shapes.specs.Module.{section, sections, custom, body_of, tree_of, custom_tree_of, unknown_tree_of, frame, numbered_frame, custom_frame, ReadsCustom, InFrame}

-- Behind a frame, sections are the one in that frame and a reading of what is left; and these two are a reading of the whole. What
-- stands in a frame is a section by the frame's id: one of its kind, a custom one, or one of another id. Each section stands in a
-- frame, and none begins where no frame does; a frame with a number has one from 1 to 127, and kinds have numbers of their own.
pub record AreInFrames : Type 0 where
  pub forth : (bytes left : List ℕ) (f t : Tree) → Begins frame bytes f left → Spells sections bytes t →
      (u v : Tree) × (t ≡ Tree.also u v) × InFrame u f × Spells sections left v
  pub back : (bytes left : List ℕ) (f u v : Tree) → Begins frame bytes f left → InFrame u f → Spells sections left v →
      Spells sections bytes (Tree.also u v)
  pub of_kind : (k : SectionId) (body : List ℕ) (t : Tree) → InFrame t (numbered_frame (number k) body) →
      (u : Tree) × (t ≡ tree_of k u) × Spells (body_of k) body u
  pub of_custom : (name contents : List ℕ) (t : Tree) → InFrame t (custom_frame name contents) → ReadsCustom name contents t
  pub of_unknown : (id : ℕ) (contents : List ℕ) (t : Tree) → 14 ≤ id → InFrame t (numbered_frame id contents) →
      t ≡ unknown_tree_of id contents
  pub framed : (bytes : List ℕ) (t : Tree) → Spells section bytes t → (f : Tree) × InFrame t f × Spells frame bytes f
  pub whole : (bytes : List ℕ) (t f : Tree) → InFrame t f → Spells frame bytes f → Spells section bytes t
  pub none : (bytes : List ℕ) → BeginsNone frame bytes → BeginsNone section bytes
  pub ids : (id : ℕ) (bytes body left : List ℕ) → Begins frame bytes (numbered_frame id body) left → (1 ≤ id) × (id ≤ 127)
  pub own_ids : (j k : SectionId) → number j ≡ number k → j ≡ k

-- an id, the size of a body, and a body of the shape that spells the tree
pub record SpellsSized (id : ℕ) (shape : Shape) (bytes : List ℕ) (tree : Tree) : Type 0 where
  pub size : List ℕ
  pub body : List ℕ
  pub stands : bytes ≡ id ∷ (size ++ body)
  pub counted : IsUnsigned 32 size (length body)
  pub spells : Spells shape body tree

-- the one whose size is the shortest, and whose body is spelled normally
abbrev pub sized_normal : ℕ → Tree → List ℕ
sized_normal id tree = id ∷ (leb (length (normal tree)) ++ normal tree)

-- Exactly an id, a size and a body spell a section: of a kind, and a custom one.
pub record AreSized : Type 0 where
  pub of_kind : (k : SectionId) (bytes : List ℕ) (t : Tree) → Spells section bytes (tree_of k t) → SpellsSized (number k) (body_of k) bytes t
  pub kind_of : (k : SectionId) (bytes : List ℕ) (t : Tree) → SpellsSized (number k) (body_of k) bytes t → Spells section bytes (tree_of k t)
  pub kind_normal : (k : SectionId) (t : Tree) → normal (tree_of k t) ≡ sized_normal (number k) t
  pub of_custom : (bytes : List ℕ) (t : Tree) → Spells section bytes (custom_tree_of t) → SpellsSized 0 custom bytes t
  pub custom_of : (bytes : List ℕ) (t : Tree) → SpellsSized 0 custom bytes t → Spells section bytes (custom_tree_of t)
  pub custom_normal : (t : Tree) → normal (custom_tree_of t) ≡ sized_normal 0 t
