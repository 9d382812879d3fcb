-- What a filled tree has of the tree.
use Rattle.std.specs.Prelude.{◌≡◌, ◌⊎◌, ◌++◌, ◌∷◌, ◌+◌, ◌||◌, ℕ, zero, suc, nat_eq, if◌then◌else◌, List, [], length, drop, get_or, map, filter_map, Option, Some, None}
use Rattle.std.specs.List.{AllZip}
use Rattle.wasm_shapes.specs.declared.SectionId.{SectionId}
use Rattle.wasm_shapes.specs.declared.Space.{Space}
use Rattle.wasm_shapes.specs.declared.Space.TheVariants as space
use Rattle.wasm_shapes.specs.declared.Visit.{Visit}
use Rattle.wasm_shapes.specs.Operators.{Code}
use Rattle.wasm_shapes.specs.Tree.{Tree, Listed, count, kind, before, behind, visits, fill, typed, left_flag, aimed_flag}

-- ---- a tree without its indices

-- The tree with 0 for each index that is asked, in its own space and spelling, and with each left-out table written as 0. All else
-- stands in it, and where it stands: which sections, rows and operators there are, in which component, and how many items.
abbrev pub erased : Tree → Tree
erased (Tree.ix s i) = Tree.ix s 0
erased (Tree.sx s i) = Tree.sx s 0
erased (Tree.outer s c i) = Tree.outer s c 0
erased (Tree.mem a i o) = Tree.mem a 0 o
erased (Tree.pair t u) = Tree.pair (erased t) (erased u)
erased (Tree.swap t u) = Tree.swap (erased t) (erased u)
erased (Tree.cons t u) = Tree.cons (erased t) (erased u)
erased (Tree.vec t) = Tree.vec (erased t)
erased (Tree.present t) = Tree.present (erased t)
erased (Tree.sized t) = Tree.sized (erased t)
erased (Tree.row k t) = Tree.row k (erased t)
erased (Tree.scope t) = Tree.scope (erased t)
erased (Tree.spare b t) = Tree.spare b (erased t)
erased (Tree.kept b t) = Tree.kept b (erased t)
erased (Tree.final t u) = Tree.final (erased t) (erased u)
erased (Tree.until b t) = Tree.until b (erased t)
erased (Tree.op c t) = Tree.op c (erased t)
erased (Tree.left w o t) = Tree.aimed w 0 (erased o) (typed w (erased t))
erased (Tree.aimed w i o t) = Tree.aimed w 0 (erased o) (erased t)
erased (Tree.placed i o t) = Tree.placed 0 (erased o) (erased t)
erased (Tree.told k t) = Tree.told k (erased t)
erased (Tree.also t u) = Tree.also (erased t) (erased u)
erased t = t

-- ---- its parts, as lists

-- What stands in a tree, but for the indices that are asked and the flags of segments.
pub data Part : Type 0 where
  -- a section of a kind that the section hook is told of, or of another one
  section : Option SectionId → Part
  -- the row of a choice
  row : ℕ → Part
  -- so many items
  items : ℕ → Part
  operator : Code → Part
  -- a number, a name or bytes of which nothing is asked
  leaf : Tree → Part
  -- some index of a space that is asked
  index : Space → Part
  -- what fills so many bytes, and what opens a scope
  frame : Part
  scope : Part

-- the type of the expressions of a segment, which is not written where the table is left out
abbrev pub typed_parts : Listed → List Part → List Part
typed_parts Listed.functions ps = ps
typed_parts Listed.expressions ps = Part.row 1 ∷ Part.row 0 ∷ Part.row 3 ∷ Part.leaf (Tree.fixed 0x70) ∷ ps

-- The parts of a tree in the order of the bytes. A table that is left out counts as a written one.
abbrev pub parts : Tree → List Part
parts Tree.empty = []
parts (Tree.ix s i) = Part.index s ∷ []
parts (Tree.sx s i) = Part.index s ∷ []
parts (Tree.outer s c i) = Part.leaf (Tree.u32 c) ∷ Part.index s ∷ []
parts (Tree.mem a i o) = Part.leaf (Tree.u32 a) ∷ Part.index space.Memory ∷ Part.leaf (Tree.u64 o) ∷ []
parts (Tree.flag n) = []
parts (Tree.pair t u) = parts t ++ parts u
parts (Tree.swap t u) = parts t ++ parts u
parts Tree.nil = []
parts (Tree.cons t u) = parts t ++ parts u
parts (Tree.vec t) = Part.items (count t) ∷ parts t
parts (Tree.present t) = Part.leaf (Tree.fixed 1) ∷ parts t
parts (Tree.sized t) = Part.frame ∷ parts t
parts (Tree.row k t) = Part.row k ∷ parts t
parts (Tree.scope t) = Part.scope ∷ parts t
parts (Tree.spare b t) = parts t
parts (Tree.kept b t) = Part.leaf (Tree.fixed b) ∷ parts t
parts (Tree.final t u) = Part.items (count t) ∷ (parts t ++ parts u)
parts (Tree.until b t) = parts t ++ (Part.leaf (Tree.fixed b) ∷ [])
parts (Tree.op c t) = Part.operator c ∷ parts t
parts (Tree.left w o t) = Part.index space.Table ∷ (parts o ++ typed_parts w (parts t))
parts (Tree.aimed w i o t) = Part.index space.Table ∷ (parts o ++ parts t)
parts (Tree.placed i o t) = Part.index space.Memory ∷ (parts o ++ parts t)
parts (Tree.told k t) = parts t
parts Tree.finish = []
parts (Tree.also t u) = Part.section (kind None t) ∷ (parts t ++ parts u)
parts t = Part.leaf t ∷ []

-- ---- the parts of one sort

abbrev pub section_of : Part → Option (Option SectionId)
section_of (Part.section k) = Some k
section_of _ = None

abbrev pub row_of : Part → Option ℕ
row_of (Part.row k) = Some k
row_of _ = None

abbrev pub items_of : Part → Option ℕ
items_of (Part.items n) = Some n
items_of _ = None

abbrev pub operator_of : Part → Option Code
operator_of (Part.operator c) = Some c
operator_of _ = None

abbrev pub leaf_of : Part → Option Tree
leaf_of (Part.leaf t) = Some t
leaf_of _ = None

abbrev pub space_of : Part → Option Space
space_of (Part.index s) = Some s
space_of _ = None

-- The kinds of the sections of core modules, in order: none where the section hook is not told of one. The sections of components
-- are rows.
abbrev pub sections_in : Tree → List (Option SectionId)
sections_in t = filter_map section_of (parts t)

-- which row of its choice each row is, in order, and how many items each vector has
abbrev pub rows_in : Tree → List ℕ
rows_in t = filter_map row_of (parts t)

abbrev pub items_in : Tree → List ℕ
items_in t = filter_map items_of (parts t)

abbrev pub operators_in : Tree → List Code
operators_in t = filter_map operator_of (parts t)

-- the numbers, names and bytes of which nothing is asked, in order
abbrev pub leaves_in : Tree → List Tree
leaves_in t = filter_map leaf_of (parts t)

-- the spaces of the indices that are asked, in the order of the bytes
abbrev pub spaces_in : Tree → List Space
spaces_in t = filter_map space_of (parts t)

-- ---- flags

-- the flags of element segments, and of passive data segments, in order
abbrev pub flags_in : Tree → List ℕ
flags_in (Tree.flag n) = n ∷ []
flags_in (Tree.pair t u) = flags_in t ++ flags_in u
flags_in (Tree.swap t u) = flags_in t ++ flags_in u
flags_in (Tree.cons t u) = flags_in t ++ flags_in u
flags_in (Tree.vec t) = flags_in t
flags_in (Tree.present t) = flags_in t
flags_in (Tree.sized t) = flags_in t
flags_in (Tree.row k t) = flags_in t
flags_in (Tree.scope t) = flags_in t
flags_in (Tree.spare b t) = flags_in t
flags_in (Tree.kept b t) = flags_in t
flags_in (Tree.final t u) = flags_in t ++ flags_in u
flags_in (Tree.until b t) = flags_in t
flags_in (Tree.op c t) = flags_in t
flags_in (Tree.left w o t) = left_flag w ∷ (flags_in o ++ flags_in t)
flags_in (Tree.aimed w i o t) = aimed_flag w ∷ (flags_in o ++ flags_in t)
flags_in (Tree.placed i o t) = flags_in o ++ flags_in t
flags_in (Tree.told k t) = flags_in t
flags_in (Tree.also t u) = flags_in t ++ flags_in u
flags_in _ = []

-- a flag stays, or a table that was left out is written: 0 becomes 2, and 4 becomes 6
abbrev pub BecomesFlag : ℕ → ℕ → Type 0
BecomesFlag n m = (m ≡ n) ⊎ ((n ≡ 0) × (m ≡ 2)) ⊎ ((n ≡ 4) × (m ≡ 6))

-- For each visit of a tree, in order: the flag of the active element segment whose table it asks, or none where it asks no such table.
abbrev pub flags_asked : Tree → List (Option ℕ)
flags_asked (Tree.ix s i) = None ∷ []
flags_asked (Tree.sx s i) = None ∷ []
flags_asked (Tree.outer s c i) = None ∷ []
flags_asked (Tree.mem a i o) = None ∷ []
flags_asked (Tree.pair t u) = flags_asked t ++ flags_asked u
flags_asked (Tree.swap t u) = flags_asked u ++ flags_asked t
flags_asked (Tree.cons t u) = flags_asked t ++ flags_asked u
flags_asked (Tree.vec t) = flags_asked t
flags_asked (Tree.present t) = flags_asked t
flags_asked (Tree.sized t) = flags_asked t
flags_asked (Tree.row k t) = flags_asked t
flags_asked (Tree.scope t) = None ∷ flags_asked t ++ (None ∷ [])
flags_asked (Tree.spare b t) = flags_asked t
flags_asked (Tree.kept b t) = flags_asked t
flags_asked (Tree.final t u) = flags_asked t ++ flags_asked u
flags_asked (Tree.until b t) = flags_asked t
flags_asked (Tree.op c t) = flags_asked t
flags_asked (Tree.left w o t) = flags_asked t ++ (Some (left_flag w) ∷ flags_asked o)
flags_asked (Tree.aimed w i o t) = flags_asked t ++ (Some (aimed_flag w) ∷ flags_asked o)
flags_asked (Tree.placed i o t) = None ∷ (flags_asked o ++ flags_asked t)
flags_asked (Tree.told k t) = flags_asked t
flags_asked Tree.finish = None ∷ []
flags_asked (Tree.also t u) =
    map (λ (v : Visit). None) (before None t) ++ (flags_asked t ++ (map (λ (v : Visit). None) (behind t) ++ flags_asked u))
flags_asked _ = []

-- what a flag becomes by the answer to the visit of its table: 0 and 4, which leave the table out, become 2 and 6 where this is not 0
abbrev pub flag_by : ℕ → ℕ → ℕ
flag_by flag zero = flag
flag_by flag (suc n) = if nat_eq flag 0 || nat_eq flag 4 then flag + 2 else flag

-- the same of the flags of some visits, each by the answer to its visit
abbrev pub flags_by : List (Option ℕ) → List ℕ → List (Option ℕ)
flags_by [] answers = []
flags_by (None ∷ fs) answers = None ∷ flags_by fs (drop 1 answers)
flags_by (Some f ∷ fs) answers = Some (flag_by f (get_or answers 0 0)) ∷ flags_by fs (drop 1 answers)

-- ---- the laws

-- Whatever the answers, a filled tree is the tree but for the indices that are asked and for the flags of active element segments.
pub record KeepsParts : Type 0 where
  -- Without the indices, and with the tables written that are left out, both are the same tree;
  pub erases : (t : Tree) (answers : List ℕ) → erased (fill t answers) ≡ erased t
  -- and a flag becomes 2 from 0 or 6 from 4 exactly where its table was left out, and the answer to the visit of it is not 0.
  pub flags_become : (t : Tree) (answers : List ℕ) → flags_asked (fill t answers) ≡ flags_by (flags_asked t) answers
  pub flags_each : (t : Tree) → length (flags_asked t) ≡ length (visits t)
  -- So the lists of parts stay, which are those of the erased tree too.
  pub erased_parts : (t : Tree) → parts (erased t) ≡ parts t
  pub all : (t : Tree) (answers : List ℕ) → parts (fill t answers) ≡ parts t
  pub sections : (t : Tree) (answers : List ℕ) → sections_in (fill t answers) ≡ sections_in t
  pub rows : (t : Tree) (answers : List ℕ) → rows_in (fill t answers) ≡ rows_in t
  pub items : (t : Tree) (answers : List ℕ) → items_in (fill t answers) ≡ items_in t
  pub operators : (t : Tree) (answers : List ℕ) → operators_in (fill t answers) ≡ operators_in t
  pub flags : (t : Tree) (answers : List ℕ) → AllZip BecomesFlag (flags_in t) (flags_in (fill t answers))

-- Labels, locals, lanes, fields, sizes, literals, names, bytes, the counts of outer indices and the inner numbers of maps of names stay
-- as they are, in their order; and so does which space is asked where.
pub record KeepsLeaves : Type 0 where
  pub leaves : (t : Tree) (answers : List ℕ) → leaves_in (fill t answers) ≡ leaves_in t
  pub spaces : (t : Tree) (answers : List ℕ) → spaces_in (fill t answers) ≡ spaces_in t
