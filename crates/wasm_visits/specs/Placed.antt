-- Where the visits of a core module stand: in the rows of its sections. A place is told by the bytes from there on: they end where all ends.
use Rattle.std.specs.Prelude.{◌≡◌, ◌≢◌, ◌-◌, ◌<◌, ◌≤◌, ◌++◌, ℕ, Bool, true, false, List, [], length, map}
use Rattle.wasm_leb.specs.Place.{BeginsNumber}
use Rattle.wasm_shapes.specs.declared.SectionId.{SectionId}
use Rattle.wasm_shapes.specs.declared.SectionId.TheVariants as ids
use Rattle.wasm_shapes.specs.declared.Space.{Space}
use Rattle.wasm_shapes.specs.Module.{CoreReading, InFrame, body_of, custom_frame, custom_tree_of, frame, names_name, numbered_frame, plain_naming, row_of, tree_of}
use Rattle.wasm_shapes.specs.Namings.{raw_names_tree, subsection_tree}
use Rattle.wasm_shapes.specs.Place.{Begins}
use Rattle.wasm_shapes.specs.SectionTable.{number}
use Rattle.wasm_shapes.specs.Shape.{Shape}
use Rattle.wasm_shapes.specs.Spells.{Spells}
use Rattle.wasm_shapes.specs.Tree.{Tree, visits}
use Rattle.wasm_read.specs.Subsections.{body_of_id, subsection_frame, subsection_frame_tree}
use Rattle.wasm_visits.specs.declared.lister.Lister.{Lister}
use Rattle.wasm_visits.specs.declared.lister.PlacedVisit.{PlacedVisit}
use Rattle.wasm_visits.specs.Visits.{all_listed, indices_asked, visit_of}

-- These are the visits of rows of a shape, one behind another in bytes that end at a place, each where its row begins.
pub data RowsAt (k : SectionId) (s : Shape) (end : ℕ) : List ℕ → Tree → List PlacedVisit → Type 0 where
  none : RowsAt k s end [] Tree.nil []
  more : (bytes left : List ℕ) (t others : Tree) (list : List PlacedVisit) → Begins s bytes t left → RowsAt k s end left others list
      → RowsAt k s end bytes (Tree.cons t others) (all_listed k (end - length bytes) (visits t) ++ list)

-- the same of a body: a number, and so many rows
pub record VectorAt (k : SectionId) (s : Shape) (end : ℕ) (body : List ℕ) (t : Tree) (list : List PlacedVisit) : Type 0 where
  pub spells : Spells (Shape.vec s) body t
  pub rows : Tree
  pub count : ℕ
  pub start : List ℕ
  pub are : t ≡ Tree.vec rows
  pub counted : BeginsNumber 128 32 32 body count start
  pub placed : RowsAt k s end start rows list

-- the body of a section of a kind: its rows, or its one item
pub data BodyAt (k : SectionId) (end : ℕ) (body : List ℕ) (t : Tree) : List PlacedVisit → Type 0 where
  rows : (list : List PlacedVisit) → VectorAt k (row_of k) end body t list → BodyAt k end body t list
  item : (s : Space) → body_of k ≡ Shape.ix s → BodyAt k end body t (all_listed k (end - length body) (visits t))

-- ---- names

-- a name, or names by an index that is not asked for
abbrev pub named_row : (indirect : Bool) → Shape
named_row true = Shape.vec plain_naming
named_row false = Shape.name

-- an index, and its name or its names
abbrev pub entry_row : (indirect : Bool) → Space → Shape
entry_row indirect s = Shape.seq (Shape.ix s) (named_row indirect)

-- A subsection by its id and its body: the entries of a map of names, or no visits.
pub data SubsectionAt (end id : ℕ) (body : List ℕ) : Tree → List PlacedVisit → Type 0 where
  text : (name : List ℕ) → id ≡ 0 → Spells Shape.name body (Tree.name name) → SubsectionAt end id body (subsection_tree id (Tree.name name)) []
  entries : (indirect : Bool) (s : Space) (t : Tree) (list : List PlacedVisit) → id < 12 → body_of_id id ≡ Shape.vec (entry_row indirect s) → VectorAt ids.Custom (entry_row indirect s) end body t list
      → SubsectionAt end id body (subsection_tree id t) list
  other : 12 ≤ id → SubsectionAt end id body (raw_names_tree id body) []

-- subsections, one behind another in bytes that end at a place
pub data NamesAt (end : ℕ) : List ℕ → Tree → List PlacedVisit → Type 0 where
  none : NamesAt end [] Tree.nil []
  more : (id : ℕ) (bytes body left : List ℕ) (t others : Tree) (here list : List PlacedVisit) → Begins subsection_frame bytes (subsection_frame_tree id body) left
      → SubsectionAt (end - length left) id body t here → NamesAt end left others list → NamesAt end bytes (Tree.cons t others) (here ++ list)

-- ---- sections

-- A section and the frame that it stands in, whose body ends at a place.
pub data SectionAt (end : ℕ) : (section frame : Tree) → List PlacedVisit → Type 0 where
  of_kind : (k : SectionId) (body : List ℕ) (t : Tree) (list : List PlacedVisit) → BodyAt k end body t list → SectionAt end (tree_of k t) (numbered_frame (number k) body) list
  of_names : (contents : List ℕ) (t : Tree) (list : List PlacedVisit) → NamesAt end contents t list
      → SectionAt end (custom_tree_of (Tree.pair (Tree.name names_name) t)) (custom_frame names_name contents) list
  of_custom : (name contents : List ℕ) → name ≢ names_name → SectionAt end (custom_tree_of (Tree.pair (Tree.name name) (Tree.raw contents))) (custom_frame name contents) []
  of_unknown : (id : ℕ) (contents : List ℕ) (t : Tree) → 14 ≤ id → visits t ≡ [] → SectionAt end t (numbered_frame id contents) []

-- sections, one behind another in bytes that end at a place
pub data SectionsAt (end : ℕ) : List ℕ → Tree → List PlacedVisit → Type 0 where
  none : SectionsAt end [] Tree.finish []
  more : (bytes left : List ℕ) (f t others : Tree) (here list : List PlacedVisit) → Begins frame bytes f left → InFrame t f → SectionAt (end - length left) t f here
      → SectionsAt end left others list → SectionsAt end bytes (Tree.also t others) (here ++ list)

-- The bytes are a core module, and these are the indices that its visits ask for, all of them and in order, each with the place where its
-- row begins, or with that of its section's body where that is one item.
pub record AreVisits (bytes : List ℕ) (list : List PlacedVisit) : Type 0 where
  pub tree : Tree
  pub reading : CoreReading bytes tree
  pub places : SectionsAt (length bytes) reading.rest tree list
  pub are : map visit_of list ≡ indices_asked (visits tree)

-- ---- a lister

-- it gained the visits of a tree, where it stands
abbrev pub Lists : Tree → Lister → Lister → Type 0
Lists t old new = new.visits ≡ old.visits ++ all_listed old.section old.place (visits t)

-- a list gained the visits of a body of rows
abbrev pub ListsRows : SectionId → Shape → ℕ → List ℕ → List PlacedVisit → List PlacedVisit → Type 0
ListsRows k s end body old new = (t : Tree) × (list : List PlacedVisit) × VectorAt k s end body t list × (new ≡ old ++ list)

-- those of a section in its frame
abbrev pub ListsSection : ℕ → Tree → List PlacedVisit → List PlacedVisit → Type 0
ListsSection end f old new = (t : Tree) × (list : List PlacedVisit) × InFrame t f × SectionAt end t f list × (new ≡ old ++ list)

-- those of a subsection of names
abbrev pub ListsSubsection : ℕ → ℕ → List ℕ → List PlacedVisit → List PlacedVisit → Type 0
ListsSubsection end id body old new = (t : Tree) × (list : List PlacedVisit) × SubsectionAt end id body t list × (new ≡ old ++ list)

-- those of a core module
abbrev pub ListsModule : List ℕ → List PlacedVisit → List PlacedVisit → Type 0
ListsModule bytes old new = (list : List PlacedVisit) × AreVisits bytes list × (new ≡ old ++ list)
