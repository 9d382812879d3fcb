-- The visits of a core module with their places, by the sections of its reading and their rows.
use Rattle.std.specs.Prelude.{◌≡◌, ◌++◌, ℕ, suc, List}
use Rattle.wasm_shapes.specs.declared.SectionId.{SectionId}
use Rattle.wasm_shapes.specs.Tree.{Tree, visits}
use Rattle.reencode_c.specs.declared.outcome.ListedVisit.{ListedVisit}
use Rattle.reencode_c.specs.Visits.{Placing, in_row, in_section, nowhere, placed, put_all}

-- rows of a section, one behind another, the first of this number
abbrev pub rows_placed : SectionId → ℕ → Tree → List ListedVisit
rows_placed k n (Tree.cons t u) = placed (in_row k n) (visits t) ++ rows_placed k (suc n) u
rows_placed k n t = placed (in_section k) (visits t)

-- the body of a section of a kind: its rows, or its one item, which is no row
abbrev pub body_placed : SectionId → Tree → List ListedVisit
body_placed k (Tree.vec t) = rows_placed k 0 t
body_placed k t = placed (in_section k) (visits t)

-- the same in its frame, and behind its id
abbrev pub framed_placed : SectionId → Tree → List ListedVisit
framed_placed k (Tree.sized t) = body_placed k t
framed_placed k t = placed (in_section k) (visits t)

abbrev pub headed_placed : SectionId → Tree → List ListedVisit
headed_placed k (Tree.pair h t) = placed (in_section k) (visits h) ++ framed_placed k t
headed_placed k t = placed (in_section k) (visits t)

-- a section: one of a known kind, or another
abbrev pub told_placed : Tree → List ListedVisit
told_placed (Tree.told k t) = headed_placed k t
told_placed t = placed nowhere (visits t)

abbrev pub section_placed : Tree → List ListedVisit
section_placed (Tree.row i t) = told_placed t
section_placed t = placed nowhere (visits t)

-- the sections, one behind another
abbrev pub module_placed : Tree → List ListedVisit
module_placed (Tree.also t u) = section_placed t ++ module_placed u
module_placed t = placed nowhere (visits t)

-- ---- a lister

-- it gained these
abbrev pub Gains : Placing → Placing → List ListedVisit → Type 0
Gains s m vs = m.listing ≡ put_all s.listing vs

-- the visits of a tree, where it stood
abbrev pub Lists : Tree → Placing → Placing → Type 0
Lists t s m = Gains s m (placed s.place (visits t))
