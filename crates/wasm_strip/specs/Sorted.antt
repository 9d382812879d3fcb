-- Names in the order of their indices (WebAssembly Core Specification 3.0, section 7.4.1).
use Rattle.std.specs.Prelude.{◌≡◌, ℕ, List, [], ◌∷◌, ◌++◌}
use Rattle.std.specs.List.{All, flat_map}
use Rattle.std.specs.List.Sorted.{IsNonDecreasingBy, IsPermutation, IsStableByKey}
use Rattle.std.specs.Ordering.{nat_cmp}
use Rattle.wasm_leb.specs.Leb.{IsUnsigned}
use Rattle.wasm_shapes.specs.Tree.{Tree}
use Rattle.wasm_shapes.specs.Shape.{Shape}
use Rattle.wasm_shapes.specs.Spells.{Spells}
use Rattle.wasm_shapes.specs.Place.{Begins}
use Rattle.wasm_shapes.specs.Rows.{RowsLeft}
use Rattle.wasm_shapes.specs.Module.{name_subsection, plain_naming}
use Rattle.wasm_shapes.specs.Namings.{plain_indirect}
use Rattle.wasm_read.specs.declared.types.Name.{Name}
use Rattle.wasm_read.specs.Subsections.{Content, HoldsName, content_of, subsection_frame, subsection_frame_tree}
use Rattle.wasm_strip.specs.declared.sorting.Row.{Row}

-- the number that a tree begins with: the index of an entry of a map, the id of a subsection
abbrev pub lead_of : Tree → ℕ
lead_of (Tree.u32 i) = i
lead_of (Tree.fixed b) = b
lead_of (Tree.byte b) = b
lead_of (Tree.pair t u) = lead_of t
lead_of (Tree.row k t) = lead_of t
lead_of _ = 0

-- the text is a row of a shape, which begins with the index
abbrev pub IsRow : Shape → Row → Type 0
IsRow s r = (t : Tree) × Spells s r.text.now t × (r.index ≡ lead_of t)

-- the bytes are these rows, one behind another
pub record AreRows (s : Shape) (bytes : List ℕ) (rows : List Row) : Type 0 where
  pub text : bytes ≡ flat_map (λ (r : Row). r.text.now) rows
  pub each : All (IsRow s) rows

-- the bytes are what is written for each of these rows, one behind another
abbrev pub Written : (Row → List ℕ → Type 0) → List Row → List ℕ → Type 0
Written each [] bytes = bytes ≡ []
Written each (r ∷ rows) bytes = (x y : List ℕ) × (bytes ≡ x ++ y) × each r x × Written each rows y

-- The rows are those that some bytes are, in the order of their indices. Those of one index keep their order.
pub record AreOrdered (s : Shape) (bytes : List ℕ) (ordered : List Row) : Type 0 where
  pub rows : List Row
  pub are : AreRows s bytes rows
  pub permuted : IsPermutation rows ordered
  pub rising : IsNonDecreasingBy (λ (r : Row). r.index) ordered
  pub stable : IsStableByKey (λ (r : Row). r.index) nat_cmp rows ordered

-- The first bytes are rows of a shape. The second are what is written for these, in the order of their indices.
pub record Sorts (s : Shape) (each : Row → List ℕ → Type 0) (bytes sorted : List ℕ) : Type 0 where
  pub rows : List Row
  pub are : AreOrdered s bytes rows
  pub writes : Written each rows sorted

-- The same of a map: its entries behind their number, which stays.
pub record SortsMap (s : Shape) (each : Row → List ℕ → Type 0) (bytes sorted : List ℕ) : Type 0 where
  pub count : ℕ
  pub number : List ℕ
  pub entries : List ℕ
  pub ordered : List ℕ
  pub counted : IsUnsigned 32 number count
  pub stands : bytes ≡ number ++ entries
  pub is : sorted ≡ number ++ ordered
  pub sorts : Sorts s each entries ordered

-- a name and its index stay as they are
abbrev pub Stays : Row → List ℕ → Type 0
Stays r x = x ≡ r.text.now

-- An index stays, and the map of names behind it is sorted.
pub record SortsGroup (r : Row) (x : List ℕ) : Type 0 where
  pub index : ℕ
  pub number : List ℕ
  pub names : List ℕ
  pub sorted : List ℕ
  pub counted : IsUnsigned 32 number index
  pub stands : r.text.now ≡ number ++ names
  pub is : x ≡ number ++ sorted
  pub sorts : SortsMap plain_naming Stays names sorted

-- the body of a subsection that is a map is sorted, any other stays
abbrev pub SortsContent : Content → List ℕ → List ℕ → Type 0
SortsContent (Content.direct id s m) body sorted = SortsMap plain_naming Stays body sorted
SortsContent (Content.indirect id s m) body sorted = SortsMap plain_indirect SortsGroup body sorted
SortsContent _ body sorted = sorted ≡ body

-- A subsection's id and size stay, and its body is sorted.
pub record SortsSubsection (r : Row) (x : List ℕ) : Type 0 where
  pub id : ℕ
  pub front : List ℕ
  pub body : List ℕ
  pub sorted : List ℕ
  pub name : Name
  pub begins : Begins subsection_frame r.text.now (subsection_frame_tree id body) []
  pub holds : HoldsName id body name
  pub stands : r.text.now ≡ front ++ body
  pub is : x ≡ front ++ sorted
  pub sorts : SortsContent (content_of name) body sorted

-- The second bytes are the contents of a name section with its subsections in the order of their ids, and in these the entries of
-- maps in the order of their indices.
abbrev pub SortsNames : List ℕ → List ℕ → Type 0
SortsNames = Sorts name_subsection SortsSubsection

-- the bytes are rows of a shape
pub record FillRows (s : Shape) (bytes : List ℕ) : Type 0 where
  pub count : ℕ
  pub rows : Tree
  pub left : RowsLeft s count bytes rows

-- where a subsection holds a map, its body is one
abbrev pub HoldsMap : Content → List ℕ → Type 0
HoldsMap (Content.direct id s m) body = (t : Tree) × Spells (Shape.vec plain_naming) body t
HoldsMap (Content.indirect id s m) body = (t : Tree) × Spells (Shape.vec plain_indirect) body t
HoldsMap _ body = Unit {0}
