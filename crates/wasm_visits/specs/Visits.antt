-- The indices that visits ask for, each where it stands, and what a lister does with them.
use Rattle.std.specs.Prelude.{ℕ, List, [], ◌∷◌, ◌++◌, Result, Ok}
use Rattle.wasm_shapes.specs.declared.SectionId.{SectionId}
use Rattle.wasm_shapes.specs.declared.Visit.{Visit}
use Rattle.wasm_shapes.specs.declared.Visit.TheVariants.{Index, Outer}
use Rattle.reencode_hooks.specs.Hooks.{index_of}
use Rattle.wasm_visits.specs.declared.lister.Lister.{Lister}
use Rattle.wasm_visits.specs.declared.lister.PlacedVisit.{PlacedVisit}

-- an index that a visit asks for (a core module has no outer ones)
abbrev pub index_asked : Visit → List Visit
index_asked (Index s i) = Index s i ∷ []
index_asked (Outer s k i) = Index s i ∷ []
index_asked _ = []

-- all that visits ask for, in order
abbrev pub indices_asked : List Visit → List Visit
indices_asked [] = []
indices_asked (v ∷ vs) = index_asked v ++ indices_asked vs

-- an index that stands in a section of a kind, in the row that begins at a place
abbrev pub listed : SectionId → ℕ → Visit → List PlacedVisit
listed k at (Index s i) = record { place = at; section = k; space = s; index = i } ∷ []
listed k at (Outer s c i) = record { place = at; section = k; space = s; index = i } ∷ []
listed k at _ = []

-- all that visits ask for there, in order
abbrev pub all_listed : SectionId → ℕ → List Visit → List PlacedVisit
all_listed k at [] = []
all_listed k at (v ∷ vs) = listed k at v ++ all_listed k at vs

-- the visit that is listed
abbrev pub visit_of : PlacedVisit → Visit
visit_of p = Index p.space p.index

-- each index stays as it is
abbrev pub lister_reply : {E : Type 0} → Lister → Visit → Result ℕ E
lister_reply l v = Ok (index_of v)

-- and is listed where the lister stands
abbrev pub lister_next : Lister → Visit → Lister
lister_next l v = record l { visits = l.visits ++ listed l.section l.place v }
