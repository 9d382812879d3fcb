-- What the reader of name sections promises (WebAssembly Core Specification 3.0, section 7.4.1).
use Rattle.std.specs.Prelude.{◌≡◌, ◌≢◌, ◌⊎◌, ℕ, ◌<◌, ◌≤◌, List, []}
use Rattle.wasm_shapes.specs.declared.Space.{Space}
use Rattle.wasm_shapes.specs.declared.Space.TheVariants as space
use Rattle.wasm_shapes.specs.Tree.{Tree}
use Rattle.wasm_shapes.specs.Shape.{Shape}
use Rattle.wasm_shapes.specs.Spells.{Spells}
use Rattle.wasm_shapes.specs.Place.{Begins, BeginsNone}
use Rattle.wasm_shapes.specs.Module.{name_subsection}
use Rattle.wasm_shapes.specs.Namings.{Entry, Outer, entries_trees, outers_trees, module_name_tree, names_tree, raw_names_tree, subsection_tree}
use Rattle.wasm_shapes.proofs.Begins.{row_at}
use Rattle.wasm_read.specs.declared.types.Name.{Name}
use Rattle.wasm_read.specs.declared.types.Name.TheVariants as name
use Rattle.wasm_read.specs.Names.{MapStanding, whole_map, NamesLeft, IndirectLeft, NamesStanding}

-- a subsection's id, and a body of which nothing is said
abbrev pub subsection_frame : Shape
subsection_frame = Shape.seq Shape.byte (Shape.sized Shape.rest)

abbrev pub subsection_frame_tree : ℕ → List ℕ → Tree
subsection_frame_tree id body = Tree.pair (Tree.byte id) (Tree.sized (Tree.raw body))

-- what the body of an id below 12 is
abbrev pub body_in : Shape → Shape
body_in (Shape.seq a (Shape.sized b)) = b
body_in _ = Shape.none

abbrev pub body_of_id : ℕ → Shape
body_of_id id = body_in (row_at name_subsection id)

-- a subsection of an id below 12, and its frame
pub record KnownSubsection (bytes : List ℕ) (t : Tree) (left : List ℕ) : Type 0 where
  pub id : ℕ
  pub body : List ℕ
  pub tree : Tree
  pub below : id < 12
  pub frame : Begins subsection_frame bytes (subsection_frame_tree id body) left
  pub spells : Spells (body_of_id id) body tree
  pub is : t ≡ subsection_tree id tree

-- one of an id from 12 on
pub record OtherSubsection (bytes : List ℕ) (t : Tree) (left : List ℕ) : Type 0 where
  pub id : ℕ
  pub body : List ℕ
  pub from : 12 ≤ id
  pub frame : Begins subsection_frame bytes (subsection_frame_tree id body) left
  pub is : t ≡ raw_names_tree id body

-- What a subsection holds: a name; a map of names of an id, by indices of a space; a map of such maps; or bytes of which nothing
-- is said.
pub data Content : Type 0 where
  text : List ℕ → Content
  direct : ℕ → Space → MapStanding → Content
  indirect : ℕ → Space → MapStanding → Content
  raw : ℕ → List ℕ → Content

abbrev pub content_of : Name → Content
content_of (name.Module n) = Content.text n.now
content_of (name.Function m) = Content.direct 1 space.Function m
content_of (name.Local m) = Content.indirect 2 space.Function m
content_of (name.Label m) = Content.indirect 3 space.Function m
content_of (name.Type_ m) = Content.direct 4 space.Type_ m
content_of (name.Table m) = Content.direct 5 space.Table m
content_of (name.Memory m) = Content.direct 6 space.Memory m
content_of (name.Global m) = Content.direct 7 space.Global m
content_of (name.Element m) = Content.direct 8 space.Element m
content_of (name.Data m) = Content.direct 9 space.Data m
content_of (name.Field m) = Content.indirect 10 space.Type_ m
content_of (name.Tag m) = Content.direct 11 space.Tag m
content_of (name.Unknown id c) = Content.raw id c.now

-- the tree is what the content is read as, where these are the subsection of a map and the one of an id that is read by its bytes
abbrev pub ReadsContentAs : (ℕ → Space → List Tree → Tree) → (ℕ → List ℕ → Tree) → Content → Tree → Type 0
ReadsContentAs map_tree raw_tree (Content.text n) t = t ≡ module_name_tree n
ReadsContentAs map_tree raw_tree (Content.direct id s m) t = (es : List Entry) × NamesLeft m es × (t ≡ map_tree id s (entries_trees es))
ReadsContentAs map_tree raw_tree (Content.indirect id s m) t = (os : List Outer) × IndirectLeft m os × (t ≡ map_tree id s (outers_trees os))
ReadsContentAs map_tree raw_tree (Content.raw id c) t = t ≡ raw_tree id c

-- the same in the name section of a core module
abbrev pub ReadsContent : Content → Tree → Type 0
ReadsContent c t = ReadsContentAs names_tree raw_names_tree c t

abbrev pub ReadsName : Name → Tree → Type 0
ReadsName n t = ReadsContent (content_of n) t

-- the id of what is raw is that of no other subsection
abbrev pub IsRaw : Name → Type 0
IsRaw (name.Unknown id c) = 12 ≤ id
IsRaw _ = Unit {0}

-- these are the id and the body of what holds the content
abbrev pub Holds : ℕ → List ℕ → Content → Type 0
Holds id body (Content.text n) = (id ≡ 0) × Spells Shape.name body (Tree.name n)
Holds id body (Content.direct j s m) = (id ≡ j) × (m ≡ whole_map body)
Holds id body (Content.indirect j s m) = (id ≡ j) × (m ≡ whole_map body)
Holds id body (Content.raw j c) = (id ≡ j) × (12 ≤ j) × (c ≡ body)

-- A subsection's frame begins there, whose id and body hold this, and these bytes are left behind it.
pub record SubsectionBegins {N : Type 0} (holding : ℕ → List ℕ → N → Type 0) (bytes : List ℕ) (n : N) (behind : List ℕ) : Type 0 where
  pub id : ℕ
  pub body : List ℕ
  pub begins : Begins subsection_frame bytes (subsection_frame_tree id body) behind
  pub holds : holding id body n

-- The frame of a subsection was read, and the reader stands behind it.
pub record SubsectionRead {N : Type 0} (holding : ℕ → List ℕ → N → Type 0) (old : NamesStanding) (n : N) (new : NamesStanding) : Type 0 where
  pub id : ℕ
  pub body : List ℕ
  pub begins : Begins subsection_frame old.rest (subsection_frame_tree id body) new.rest
  pub holds : holding id body n
  pub len : new.len ≡ old.len

-- no frame begins there, or one of the id 0 whose body is no name
abbrev pub NoSubsection : List ℕ → Type 0
NoSubsection bytes =
    BeginsNone subsection_frame bytes
    ⊎ ((body left : List ℕ) × Begins subsection_frame bytes (subsection_frame_tree 0 body) left × ((t : Tree) → Spells Shape.name body t → ⊥))

-- Neither stands where bytes are left; and so no subsection of this shape begins.
pub record SubsectionMissing (row : Shape) (old : NamesStanding) : Type 0 where
  pub some : old.rest ≢ []
  pub here : NoSubsection old.rest
  pub none : BeginsNone row old.rest

-- ---- the same of the names of a core module

abbrev pub HoldsName : ℕ → List ℕ → Name → Type 0
HoldsName id body n = Holds id body (content_of n)

abbrev pub NameRead : NamesStanding → Name → NamesStanding → Type 0
NameRead = SubsectionRead HoldsName

abbrev pub NameMissing : NamesStanding → Type 0
NameMissing = SubsectionMissing name_subsection
