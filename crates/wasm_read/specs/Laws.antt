-- Laws of the frames that function bodies and the subsections of names stand in.
use Rattle.std.specs.Prelude.{◌≡◌, ◌⊎◌, ℕ, ◌<◌, ◌≤◌, List}
use Rattle.wasm_shapes.specs.Tree.{Tree}
use Rattle.wasm_shapes.specs.Spells.{Spells}
use Rattle.wasm_shapes.specs.Place.{Begins}
use Rattle.wasm_shapes.specs.Module.{body, code_row, name_subsection}
use Rattle.wasm_shapes.specs.Namings.{raw_names_tree, subsection_tree}
use Rattle.wasm_read.specs.Operations.{frame_row}
use Rattle.wasm_read.specs.Subsections.{subsection_frame, subsection_frame_tree, body_of_id, KnownSubsection, OtherSubsection}

-- A row of a code section is a frame, and the body whose spelling fills it; and the other way round.
pub record AreBodiesFramed : Type 0 where
  pub forth : (bytes left : List ℕ) (t : Tree) → Begins code_row bytes t left →
      (contents : List ℕ) × (u : Tree) × (t ≡ Tree.sized u) × Begins frame_row bytes (Tree.sized (Tree.raw contents)) left × Spells body contents u
  pub back : (bytes contents left : List ℕ) (u : Tree) → Begins frame_row bytes (Tree.sized (Tree.raw contents)) left → Spells body contents u →
      Begins code_row bytes (Tree.sized u) left

-- A subsection is a frame, and what the frame's id says of its body; and the other way round.
pub record AreSubsectionsFramed : Type 0 where
  pub forth : (bytes left : List ℕ) (t : Tree) → Begins name_subsection bytes t left → KnownSubsection bytes t left ⊎ OtherSubsection bytes t left
  pub back : (id : ℕ) (bytes body left : List ℕ) (u : Tree) → id < 12 → Begins subsection_frame bytes (subsection_frame_tree id body) left →
      Spells (body_of_id id) body u → Begins name_subsection bytes (subsection_tree id u) left
  pub others : (id : ℕ) (bytes body left : List ℕ) → 12 ≤ id → Begins subsection_frame bytes (subsection_frame_tree id body) left →
      Begins name_subsection bytes (raw_names_tree id body) left
