-- What each call makes of some bytes, in terms of their reading as a core module or a component.
use Rattle.std.specs.Prelude.{◌≡◌, ◌≢◌, ℕ, List, length, map, Ok}
use Rattle.wasm_shapes.specs.Fits.{Fits}
use Rattle.wasm_shapes.specs.Module.{CoreReading}
use Rattle.wasm_shapes.specs.Tree.{Tree, fill, normal, visits}
use Rattle.reencode_component.specs.Components.{ComponentReading}
use Rattle.reencode_component.specs.WithinLaws.{ReadsBinary}
use Rattle.reencode_c.specs.declared.outcome.ListedVisit.{ListedVisit}
use Rattle.reencode_c.specs.Entries.{Renaming, renaming_reply}
use Rattle.reencode_c.specs.Places.{module_placed}
use Rattle.reencode_c.specs.Visits.{all_listed, dealt, nowhere, placed, tally, unplaced}

-- The bytes have a reading, and the output is its normal spelling, of which no frame is above the ceiling.
pub record IsPlain (ceiling : ℕ) (bytes output : List ℕ) : Type 0 where
  pub tree : Tree
  pub reading : ReadsBinary bytes tree
  pub fits : Fits tree ceiling
  pub spelled : output ≡ normal tree

-- The bytes have a reading, the renaming has an answer to each visit of it, in order, and the output is the normal spelling of the reading
-- with each index replaced by its answer. No frame of it is above the ceiling.
pub record IsRenamed (r : Renaming) (ceiling : ℕ) (bytes output : List ℕ) : Type 0 where
  pub tree : Tree
  pub reading : ReadsBinary bytes tree
  pub answers : List ℕ
  pub answered : map (renaming_reply r) (visits tree) ≡ map Ok answers
  pub fits : Fits (fill tree answers) ceiling
  pub spelled : output ≡ normal (fill tree answers)

-- Visits with their places. Those of a core module stand in its sections and in their rows. Those of a component stand, where they
-- are of a core module inside it, in the sections of that one, and in no row that is told; and else nowhere.
pub data ArePlaced (bytes : List ℕ) (list : List ListedVisit) : Type 0 where
  of_module : (t : Tree) → CoreReading bytes t → list ≡ module_placed t → ArePlaced bytes list
  of_component : (t : Tree) → ComponentReading 0 bytes t → list ≡ placed nowhere (visits t) → ArePlaced bytes list

-- The bytes have a reading, and these are its visits, each with its place.
pub record AreVisits (bytes : List ℕ) (list : List ListedVisit) : Type 0 where
  pub tree : Tree
  pub reading : ReadsBinary bytes tree
  pub are : map unplaced list ≡ all_listed (visits tree)
  pub places : ArePlaced bytes list

-- The bytes have a reading, and the output is the normal spelling of it with these answers in the places of its visits, one for each visit
-- that is listed, in order. No frame of it is above the ceiling.
pub record IsAnswered (answers : List ℕ) (ceiling : ℕ) (bytes output : List ℕ) : Type 0 where
  pub tree : Tree
  pub reading : ReadsBinary bytes tree
  pub enough : tally (length (all_listed (visits tree))) ≡ length answers
  pub fits : Fits (fill tree (dealt (visits tree) answers)) ceiling
  pub spelled : output ≡ normal (fill tree (dealt (visits tree) answers))

-- The bytes have a reading, so many of its visits are listed, and the answers are more or fewer. No frame of the reading with these
-- answers in the places of its visits is above the ceiling, an index behind the last answer staying as it is.
pub record IsMiscounted (answers : List ℕ) (ceiling : ℕ) (bytes : List ℕ) (wanted : ℕ) : Type 0 where
  pub tree : Tree
  pub reading : ReadsBinary bytes tree
  pub counted : wanted ≡ tally (length (all_listed (visits tree)))
  pub differs : wanted ≢ length answers
  pub fits : Fits (fill tree (dealt (visits tree) answers)) ceiling
