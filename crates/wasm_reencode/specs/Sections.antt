-- The sections of a binary, as they stand in a file.
use Rattle.std.specs.Prelude.{◌≡◌, ◌≢◌, ◌<◌, ◌+◌, ◌-◌, ◌≤◌, ◌==◌, ◌&&◌, ◌||◌, ◌⊎◌, nat_lt, get_or, codes, ℕ, Bool, true, false, List, [], ◌∷◌, ◌++◌, length, Option, None, Some}
use Rattle.std.specs.Borrow.{Bor}
use Rattle.wasm_leb.specs.Place.{BeginsNumber}
use Rattle.wasm_shapes.specs.Module.{component_header, core_header}
use Rattle.wasm_shapes.specs.Place.{Begins, BeginsNone}
use Rattle.wasm_shapes.specs.Shape.{Shape}
use Rattle.wasm_shapes.specs.Tree.{Tree}
use Rattle.wasm_reencode.specs.declared.sections.Layer.{Layer}
use Rattle.wasm_reencode.specs.declared.sections.Layer.TheVariants as layer
use Rattle.wasm_reencode.specs.declared.sections.Section.{Section}

-- the bytes at the front of a binary
abbrev pub header : Layer → List ℕ
header layer.Module = core_header
header layer.Component = component_header

-- the bytes do not begin as a binary does
abbrev pub IsHeadless : List ℕ → Type 0
IsHeadless bytes = (l : Layer) (rest : List ℕ) → bytes ≢ header l ++ rest

-- a body behind its size, and the bytes behind that
abbrev pub Frame : Type 0
Frame = Bor (List ℕ) × Bor (List ℕ)

-- the bytes begin with a size and so many bytes; or with none, or one that passes the end
abbrev pub IsFrame : Option Frame → List ℕ → Type 0
IsFrame None bytes = BeginsNone (Shape.sized Shape.rest) bytes
IsFrame (Some f) bytes = Begins (Shape.sized Shape.rest) bytes (Tree.sized (Tree.raw f.0.now)) f.1.now

-- the section of this number, in a binary of a layer that stands in so many others, begins at this place, where these bytes stand
pub record IsSection (l : Layer) (within n at : ℕ) (bytes : List ℕ) (s : Section) : Type 0 where
  pub layer : s.layer ≡ l
  pub depth : s.depth ≡ within
  pub number : s.number ≡ n
  pub start : s.start ≡ at
  pub behind : List ℕ
  pub stands : bytes ≡ s.id ∷ behind
  pub framed : IsFrame s.frame behind

-- the section of this id is a whole binary
abbrev pub is_binary : Layer → ℕ → Bool
is_binary layer.Module id = false
is_binary layer.Component id = id == 1 || id == 4

-- how many binaries the sections that are listed stand in, at most
abbrev pub deepest : ℕ
deepest = 200

-- no sections are listed of what stands in a section: it is no binary, has no header of one, or stands too deep
abbrev pub HasNoInner : Layer → (depth id : ℕ) → List ℕ → Type 0
HasNoInner l depth id body = is_binary l id ≡ true → depth < deepest → IsHeadless body

-- Which sections are listed of a binary of a layer that stands in so many others, from this number and place on, where these bytes stand: in
-- order, and behind each that is a binary those in it. One whose size passes the end is the last.
pub data AreListed : Layer → (depth number start : ℕ) → List ℕ → List Section → Type 0 where
  ended : {l : Layer} {depth number start : ℕ} → AreListed l depth number start [] []
  cut : {l : Layer} {depth number start : ℕ} {bytes : List ℕ} {s : Section} → IsSection l depth number start bytes s → s.frame ≡ None → AreListed l depth number start bytes (s ∷ [])
  plain : {l : Layer} {depth number start : ℕ} {bytes : List ℕ} {s : Section} {more : List Section} (f : Frame) → IsSection l depth number start bytes s → s.frame ≡ Some f
      → HasNoInner l depth s.id f.0.now → AreListed l depth (number + 1) (start + (length bytes - length f.1.now)) f.1.now more → AreListed l depth number start bytes (s ∷ more)
  nested : {l : Layer} {depth number start : ℕ} {bytes : List ℕ} {s : Section} {inner more : List Section} (f : Frame) (k : Layer) (sections : List ℕ) → IsSection l depth number start bytes s
      → s.frame ≡ Some f → is_binary l s.id ≡ true → depth < deepest → f.0.now ≡ header k ++ sections
      → AreListed k (depth + 1) 0 (start + (length bytes - length f.1.now) - length sections) sections inner
      → AreListed l depth (number + 1) (start + (length bytes - length f.1.now)) f.1.now more → AreListed l depth number start bytes (s ∷ (inner ++ more))

-- these sections are listed of what stands in the body of a section, which ends at a place
abbrev pub IsInner : Layer → (depth id end : ℕ) → List ℕ → List Section → Type 0
IsInner l depth id end body inner =
    ((inner ≡ []) × HasNoInner l depth id body)
    ⊎ ((k : Layer) × (sections : List ℕ) × (is_binary l id ≡ true) × (depth < deepest) × (body ≡ header k ++ sections)
    × AreListed k (depth + 1) 0 (end - length sections) sections inner)

-- The section that a place stands in, of those from this number and place on, where these bytes stand; or one before it whose size passes the
-- end; or none, where all end before it.
pub data IsAt : Layer → (number start : ℕ) → List ℕ → (place : ℕ) → Option Section → Type 0 where
  ended : {l : Layer} {number start place : ℕ} → IsAt l number start [] place None
  cut : {l : Layer} {number start place : ℕ} {bytes : List ℕ} {s : Section} → IsSection l 0 number start bytes s → s.frame ≡ None → IsAt l number start bytes place (Some s)
  here : {l : Layer} {number start place : ℕ} {bytes : List ℕ} {s : Section} (f : Frame) → IsSection l 0 number start bytes s → s.frame ≡ Some f
      → place < start + (length bytes - length f.1.now) → IsAt l number start bytes place (Some s)
  behind : {l : Layer} {number start place : ℕ} {bytes : List ℕ} {s : Section} {r : Option Section} (f : Frame) → IsSection l 0 number start bytes s → s.frame ≡ Some f
      → start + (length bytes - length f.1.now) ≤ place → IsAt l (number + 1) (start + (length bytes - length f.1.now)) f.1.now place r → IsAt l number start bytes place r

-- the same in a whole file; without a header of a binary there is none
abbrev pub IsAtIn : List ℕ → (place : ℕ) → Option Section → Type 0
IsAtIn bytes place r = ((l : Layer) × (rest : List ℕ) × (bytes ≡ header l ++ rest) × IsAt l 0 8 rest place r) ⊎ (IsHeadless bytes × (r ≡ None))

-- the sections whose bodies are vectors of rows
abbrev pub is_vector : Layer → ℕ → Bool
is_vector layer.Module id = (nat_lt 0 id && nat_lt id 8) || (nat_lt 8 id && nat_lt id 12) || id == 13
is_vector layer.Component id = id == 2 || id == 3 || (nat_lt 4 id && nat_lt id 9) || (nat_lt 9 id && nat_lt id 13)

-- the section is a vector, and its body begins with this number of rows
abbrev pub HasRows : Section → ℕ → Type 0
HasRows s n = (f : Frame) × (left : List ℕ) × (s.frame ≡ Some f) × (is_vector s.layer s.id ≡ true) × BeginsNumber 128 32 32 f.0.now n left

-- the section is a custom one of this name
abbrev pub HasName : Section → List ℕ → Type 0
HasName s name = (f : Frame) × (left : List ℕ) × (s.frame ≡ Some f) × (s.id ≡ 0) × Begins Shape.name f.0.now (Tree.name name) left

-- the section is the code of a core module, and this is its body
abbrev pub HasCode : Section → List ℕ → Type 0
HasCode s body = (f : Frame) × (s.frame ≡ Some f) × (s.layer ≡ layer.Module) × (s.id ≡ 10) × (body ≡ f.0.now)

-- what the sections of the ids from 0 on are called
abbrev pub names : Layer → List (List ℕ)
names layer.Module =
    codes "custom" ∷ codes "type" ∷ codes "import" ∷ codes "function" ∷ codes "table" ∷ codes "memory" ∷ codes "global" ∷ codes "export" ∷ codes "start"
    ∷ codes "element" ∷ codes "code" ∷ codes "data" ∷ codes "data count" ∷ codes "tag" ∷ []
names layer.Component =
    codes "custom" ∷ codes "core module" ∷ codes "core instance" ∷ codes "core type" ∷ codes "component" ∷ codes "instance" ∷ codes "alias" ∷ codes "type"
    ∷ codes "canon" ∷ codes "start" ∷ codes "import" ∷ codes "export" ∷ codes "value" ∷ []

-- what the section of an id is called
abbrev pub kind_name : Layer → ℕ → List ℕ
kind_name l id = get_or (names l) id (codes "unknown")
