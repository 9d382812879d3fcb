-- What strippers leave out, what they give, and their errors.
use Rattle.std.specs.Prelude.{◌≡◌, ◌⊎◌, ◌-◌, ◌++◌, ℕ, List, [], ◌∷◌, Bool, true, length}
use Rattle.wasm_leb.specs.declared.fault.Fault.{Fault}
use Rattle.wasm_shapes.specs.Tree.{Tree, normal}
use Rattle.wasm_shapes.specs.Module.{core_header, custom_frame, frame, names_name}
use Rattle.wasm_shapes.specs.Types.{rows_tree}
use Rattle.wasm_shapes.specs.Place.{Begins}
use Rattle.wasm_read.specs.declared.types.Payload.{Payload}
use Rattle.wasm_read.specs.declared.types.Payload.TheVariants as payload
use Rattle.wasm_read.specs.Frames.{NoCoreHeader, frame_tree, section_number}
use Rattle.wasm_read.specs.Payloads.{NoFrame}
use Rattle.wasm_read.specs.Types.{custom_tree}
use Rattle.wasm_write.specs.Sections.{SectionRow, Sections, section_row, with_section}
use Rattle.reencode_hooks.specs.declared.error.Error.{Error}
use Rattle.reencode_hooks.specs.declared.error.Error.TheVariants.{TooLarge, NoMemory}
use Rattle.reencode_hooks.specs.Errors.{error_of_fault}
use Rattle.reencode_core.specs.Rows.{RowsBefore}

-- a custom section of this name is left out
abbrev pub IsLeftOut : Bool → List ℕ → Type 0
IsLeftOut all name = (all ≡ true) ⊎ (name ≡ names_name)

-- a size is too large, of which the fact is true, or memory runs out: no other error
abbrev pub IsUnwritten : {E : Type 0} → Error E → (ℕ → Type 0) → Type 0
IsUnwritten (TooLarge size) P = P size
IsUnwritten NoMemory P = Unit {0}
IsUnwritten _ P = ⊥

-- ---- whole sections

-- The bytes are the header of a module and the frames of sections, one behind another, and these bytes are left behind them.
pub record Framed (bytes : List ℕ) (sections : List Tree) (rest : List ℕ) : Type 0 where
  pub start : List ℕ
  pub stands : bytes ≡ core_header ++ start
  pub front : RowsBefore frame start sections rest

-- the frame is that of a custom section that is left out
abbrev pub LeavesOut : Bool → Tree → Type 0
LeavesOut all t = (name contents : List ℕ) × (t ≡ custom_frame name contents) × IsLeftOut all name

-- The second are the first without those that are left out, in order.
pub data Stay (all : Bool) : List Tree → List Tree → Type 0 where
  none : Stay all [] []
  left : {t : Tree} {ts us : List Tree} → LeavesOut all t → Stay all ts us → Stay all (t ∷ ts) us
  kept : {t : Tree} {ts us : List Tree} → ¬ LeavesOut all t → Stay all ts us → Stay all (t ∷ ts) (t ∷ us)

-- The bytes are a module by its frames, and the output is the header and those of them that stay, in normal spelling.
pub record IsStripped (all : Bool) (bytes output : List ℕ) : Type 0 where
  pub sections : List Tree
  pub reading : Framed bytes sections []
  pub kept : List Tree
  pub stay : Stay all sections kept
  pub spelled : output ≡ core_header ++ normal (rows_tree kept)

-- Behind these frames bytes are left with which none begins.
pub record StopsFramed (bytes : List ℕ) (fault : Fault) : Type 0 where
  pub sections : List Tree
  pub rest : List ℕ
  pub reading : Framed bytes sections rest
  pub none : NoFrame fault rest (length bytes - length rest)

-- The error is the reader's: no header of a module stands there, or a frame is due and none begins.
abbrev pub IsUnframed : {E : Type 0} → List ℕ → Error E → Type 0
IsUnframed bytes e = (fault : Fault) × (e ≡ error_of_fault fault) × (NoCoreHeader fault bytes ⊎ StopsFramed bytes fault)

-- ---- one section

-- the section of a payload: its id and its body
abbrev pub payload_row : Payload → SectionRow
payload_row (payload.Section id at body) = section_row (section_number id) body.now
payload_row (payload.Custom at section) = section_row 0 (normal (custom_tree section))
payload_row (payload.Unknown at id contents) = section_row id contents.now

-- the payload was read from some bytes
abbrev pub IsRead : Payload → Type 0
IsRead p = (bytes left : List ℕ) × Begins frame bytes (frame_tree p) left

-- the section is left out and the module stays, or it is added
abbrev pub AddsKept : Bool → Payload → Sections → Sections → Type 0
AddsKept all p old new =
    (LeavesOut all (frame_tree p) × (new ≡ old)) ⊎ ((¬ LeavesOut all (frame_tree p)) × (new ≡ with_section old (payload_row p)))
