-- What a binary is made of, section by section, and what is left of it without some custom sections.
use Rattle.std.specs.Prelude.{◌≡◌, ℕ, suc, List, [], ◌∷◌, ◌++◌, length, if◌then◌else◌, Option, Some, None, ◌==◌}
use Rattle.wasm_leb.specs.Leb.{leb}
use Rattle.wasm_leb.specs.declared.fault.Kind.{Kind}
use Rattle.wasm_leb.specs.declared.fault.Kind.TheVariants as kind
use Rattle.wasm_shapes.specs.Tree.{Tree}
use Rattle.wasm_shapes.specs.Spells.{Spells}
use Rattle.wasm_shapes.specs.Module.{component_header, core_header, custom_frame, frame, numbered_frame}

-- The sections of a binary, in order. A section is kept as its whole text: its id, its size and its body.
pub data SectionList : Type 0 where
  -- no more sections
  ended : SectionList
  -- a custom section: its name, its contents behind that, its text, and the sections behind it
  custom : (name contents text : List ℕ) → (more : SectionList) → SectionList
  -- a section of another id, which holds no binary: its text, and the sections behind it
  other : (text : List ℕ) → (more : SectionList) → SectionList
  -- in a component a section that holds a binary: the kind of that, its sections, and the sections behind it
  nested : (inside : Kind) → (inner more : SectionList) → SectionList

-- the bytes at the front of a binary of a kind
abbrev pub header_of : Kind → List ℕ
header_of kind.Module = core_header
header_of kind.Component = component_header

-- the kind of the binary that a section of this id holds, in a binary of a kind
abbrev pub held : Kind → ℕ → Option Kind
held kind.Module id = None
held kind.Component id = if id == 1 then Some kind.Module else (if id == 4 then Some kind.Component else None)

-- the id of the sections that hold a binary of a kind
abbrev pub holder : Kind → ℕ
holder kind.Module = 1
holder kind.Component = 4

-- the bytes begin with the text of a section of this id and body (as a tree of its frame), and these are left behind it
pub record Stands (bytes text : List ℕ) (section : Tree) (rest : List ℕ) : Type 0 where
  pub spells : Spells frame text section
  pub stands : bytes ≡ text ++ rest

-- The bytes are these sections of a binary of a kind, in which binaries stand at most so deep within each other.
abbrev pub IsSectionList : ℕ → Kind → List ℕ → SectionList → Type 0
IsSectionList depth kind bytes ended = bytes ≡ []
IsSectionList depth kind bytes (custom name contents text more) =
    (rest : List ℕ) × Stands bytes text (custom_frame name contents) rest × IsSectionList depth kind rest more
IsSectionList depth kind bytes (other text more) =
    (id : ℕ) × (body rest : List ℕ) × Stands bytes text (numbered_frame id body) rest × (held kind id ≡ None) × IsSectionList depth kind rest more
IsSectionList depth kind bytes (nested inside inner more) =
    (id below : ℕ) × (text body rest : List ℕ) × Stands bytes text (numbered_frame id (header_of inside ++ body)) rest
    × (held kind id ≡ Some inside) × (depth ≡ suc below) × IsSectionList below inside body inner × IsSectionList depth kind rest more

-- a section of this id and body, with the shortest size
abbrev pub sized : ℕ → List ℕ → List ℕ
sized id body = id ∷ (leb (length body) ++ body)

-- How sections are spelled: each as its text stands, and around a nested binary the shortest size.
abbrev pub text_of : SectionList → List ℕ
text_of ended = []
text_of (custom name contents text more) = text ++ text_of more
text_of (other text more) = text ++ text_of more
text_of (nested inside inner more) = sized (holder inside) (header_of inside ++ text_of inner) ++ text_of more

-- which custom sections are removed, by the kind of the binary that they stand in, their name and their contents
abbrev pub Removed : Type 1
Removed = Kind → List ℕ → List ℕ → Type 0

-- The second sections are the first, those of a binary of a kind, without the custom ones that are removed, here and in what is
-- nested. All others stay, in order.
pub data Leaves (removed : Removed) : Kind → SectionList → SectionList → Type 0 where
  nothing : {kind : Kind} → Leaves removed kind ended ended
  goes : {kind : Kind} {name contents text : List ℕ} {more left : SectionList} → removed kind name contents → Leaves removed kind more left → Leaves removed kind (custom name contents text more) left
  stays : {kind : Kind} {name contents text : List ℕ} {more left : SectionList} → ¬ removed kind name contents → Leaves removed kind more left →
      Leaves removed kind (custom name contents text more) (custom name contents text left)
  unnamed : {kind : Kind} {text : List ℕ} {more left : SectionList} → Leaves removed kind more left → Leaves removed kind (other text more) (other text left)
  around : {kind inside : Kind} {inner within more left : SectionList} → Leaves removed inside inner within → Leaves removed kind more left →
      Leaves removed kind (nested inside inner more) (nested inside within left)

-- how deep binaries may stand within each other, below the outermost
abbrev pub deepest : ℕ
deepest = 200

-- The bytes are a binary of a kind: its header and these sections, nested at most so deep.
pub record IsBinary (depth : ℕ) (bytes : List ℕ) (kind : Kind) (parts : SectionList) : Type 0 where
  pub rest : List ℕ
  pub stands : bytes ≡ header_of kind ++ rest
  pub are : IsSectionList depth kind rest parts

-- The output is the input without the custom sections that are removed.
pub record IsStripped (removed : Removed) (bytes output : List ℕ) : Type 0 where
  pub kind : Kind
  pub parts : SectionList
  pub left : SectionList
  pub reads : IsBinary deepest bytes kind parts
  pub leaves : Leaves removed kind parts left
  pub spelled : output ≡ header_of kind ++ text_of left
