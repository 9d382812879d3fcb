-- The frames of the sections of a component: what a payload stands for, and what the reader of payloads promises.
use Rattle.std.specs.Prelude.{◌≡◌, ◌≢◌, ℕ, ◌<◌, ◌≤◌, List, [], ◌++◌, length}
use Rattle.wasm_leb.specs.declared.fault.Fault.{Fault}
use Rattle.wasm_leb.specs.declared.fault.Fault.TheVariants as fault
use Rattle.wasm_leb.specs.declared.fault.Kind.TheVariants as kind
use Rattle.wasm_shapes.specs.Tree.{Tree}
use Rattle.wasm_shapes.specs.Place.{BeginsNone}
use Rattle.wasm_shapes.specs.Module.{component_header, core_header, custom_frame, frame, numbered_frame}
use Rattle.wasm_read.specs.Frames.{Sections}
use Rattle.wasm_read_component.specs.declared.types.ComponentPayload.{ComponentPayload}
use Rattle.wasm_read_component.specs.declared.types.ComponentPayload.TheVariants as payload

-- what a payload stands for: its section in its frame; a section of a core module stands in none here
abbrev pub component_frame_tree : ComponentPayload → Tree
component_frame_tree (payload.Core id) = Tree.empty
component_frame_tree (payload.Section id at body) = numbered_frame id body.now
component_frame_tree (payload.Module at bytes) = numbered_frame 1 bytes.now
component_frame_tree (payload.Component at bytes) = numbered_frame 4 bytes.now
component_frame_tree (payload.Custom at section) = custom_frame section.name.now section.contents.now
component_frame_tree (payload.Unknown at id contents) = numbered_frame id contents.now

-- the place of the section's id
abbrev pub component_payload_at : ComponentPayload → ℕ
component_payload_at (payload.Core id) = 0
component_payload_at (payload.Section id at body) = at
component_payload_at (payload.Module at bytes) = at
component_payload_at (payload.Component at bytes) = at
component_payload_at (payload.Custom at section) = at
component_payload_at (payload.Unknown at id contents) = at

-- a payload that a reader gives: a core module or a component, another of a kind below 12, a custom one, or of an id that no table knows
abbrev pub IsGiven : ComponentPayload → Type 0
IsGiven (payload.Module at bytes) = Unit {0}
IsGiven (payload.Component at bytes) = Unit {0}
IsGiven (payload.Custom at section) = Unit {0}
IsGiven (payload.Section id at body) = (id < 12) × (id ≢ 1) × (id ≢ 4)
IsGiven (payload.Unknown at id contents) = 12 ≤ id
IsGiven _ = ⊥

-- no frame begins where bytes are left, and the error holds the place
abbrev pub NoComponentFrame : Fault → List ℕ → ℕ → Type 0
NoComponentFrame (fault.Read e) bytes at = (e.at ≡ at) × BeginsNone frame bytes × (bytes ≢ [])
NoComponentFrame _ bytes at = ⊥

-- The header was read, and the sections are left behind it.
pub record ComponentHeaderRead (bytes : List ℕ) (new : Sections) : Type 0 where
  pub stands : bytes ≡ component_header ++ new.rest
  pub len : new.len ≡ length bytes

-- The header of a core module stands there, or neither header.
abbrev pub NoComponentHeader : Fault → List ℕ → Type 0
NoComponentHeader (fault.Header kind.Module) bytes = (rest : List ℕ) × (bytes ≡ core_header ++ rest)
NoComponentHeader (fault.Read e) bytes = (e.at ≡ 0) × ((rest : List ℕ) → (bytes ≢ core_header ++ rest) × (bytes ≢ component_header ++ rest))
NoComponentHeader _ bytes = ⊥
