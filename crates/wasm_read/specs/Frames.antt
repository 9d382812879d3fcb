-- The frames of sections: what a payload stands for, and what the reader of payloads promises.
use Rattle.std.specs.Prelude.{◌≡◌, ◌≢◌, ℕ, ◌-◌, ◌≤◌, List, ◌++◌, length}
use Rattle.wasm_leb.specs.declared.fault.Fault.{Fault}
use Rattle.wasm_leb.specs.declared.fault.Fault.TheVariants as fault
use Rattle.wasm_leb.specs.declared.fault.Kind.TheVariants as kind
use Rattle.wasm_shapes.specs.declared.SectionId.{SectionId}
use Rattle.wasm_shapes.specs.Tree.{Tree}
use Rattle.wasm_shapes.specs.Module.{core_header, component_header}
pub use Rattle.wasm_shapes.specs.Module.{numbered_frame, custom_frame}
use Rattle.wasm_shapes.specs.SectionTable.{number}
use Rattle.wasm_read.specs.declared.types.Payload.{Payload}
use Rattle.wasm_read.specs.declared.types.Payload.TheVariants as payload

-- the id of the sections of a kind
abbrev pub section_number : SectionId → ℕ
section_number k = number k

-- what a payload stands for: its section in its frame
abbrev pub frame_tree : Payload → Tree
frame_tree (payload.Section id at body) = numbered_frame (section_number id) body.now
frame_tree (payload.Custom at section) = custom_frame section.name.now section.contents.now
frame_tree (payload.Unknown at id contents) = numbered_frame id contents.now

-- the place of the section's id
abbrev pub payload_at : Payload → ℕ
payload_at (payload.Section id at body) = at
payload_at (payload.Custom at section) = at
payload_at (payload.Unknown at id contents) = at

-- a section is unknown only where its id is of no known kind
abbrev pub IsUnknown : Payload → Type 0
IsUnknown (payload.Unknown at id contents) = 14 ≤ id
IsUnknown _ = Unit {0}

-- Where a reader of sections stands: the bytes that are left, and how many there were with the header.
pub record Sections : Type 0 where
  pub rest : List ℕ
  pub len : ℕ

-- its place, counted from the first byte of the header
abbrev pub sections_place : Sections → ℕ
sections_place reader = reader.len - length reader.rest

-- The header was read, and the sections are left behind it.
pub record HeaderRead (bytes : List ℕ) (new : Sections) : Type 0 where
  pub stands : bytes ≡ core_header ++ new.rest
  pub len : new.len ≡ length bytes

-- The header of a component stands there, or neither header.
abbrev pub NoCoreHeader : Fault → List ℕ → Type 0
NoCoreHeader (fault.Header kind.Component) bytes = (rest : List ℕ) × (bytes ≡ component_header ++ rest)
NoCoreHeader (fault.Read e) bytes = (e.at ≡ 0) × ((rest : List ℕ) → (bytes ≢ core_header ++ rest) × (bytes ≢ component_header ++ rest))
NoCoreHeader _ bytes = ⊥
