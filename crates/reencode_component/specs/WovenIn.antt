-- The law of the walk over the sections of a component in terms of the run, where the section hooks may add sections to nested modules: the
-- filled reading, with what the hook adds in its places.
use Rattle.std.specs.Prelude.{◌≡◌, ◌≤◌, ℕ, List, length, take, drop, Result, Ok, Err}
use Rattle.wasm_shapes.specs.declared.Visit.TheVariants.{Push}
use Rattle.wasm_shapes.specs.Fits.{Fits}
use Rattle.wasm_shapes.specs.Spells.{Spelled}
use Rattle.wasm_shapes.specs.Tree.{Tree, after, fill, normal, visits}
use Rattle.wasm_write.specs.Sections.{SectionRow, Sections}
use Rattle.reencode_hooks.specs.declared.error.Error.{Error}
use Rattle.reencode_hooks.specs.declared.indices.ReencodeIndices.{Ghosts}
use Rattle.reencode_hooks.specs.Run.{accepted, run, state_after}
use Rattle.reencode_core.specs.Clauses.{asks}
use Rattle.reencode_core.specs.Rows.{Asks}
use Rattle.reencode_core.specs.Weave.{Puts, added, woven}
use Rattle.reencode_core.specs.Woven.{AddsFit}
use Rattle.reencode_component.specs.ComponentLaws.{Adds, AddsOrWants, OfCalls}
use Rattle.reencode_component.specs.Components.{ComponentReading}
use Rattle.reencode_component.specs.WeaveIn.{weave_in}

-- the answers to a tree's own visits
abbrev pub first : Tree → List ℕ → List ℕ
first t answers = take (length (visits t)) answers

-- The filled tree, with these put where `weave_in` puts them. A module in it is woven as in the core, in the state that the run before it
-- leaves.
abbrev pub woven_in : {S E : Type 0} → Asks S E → Puts S Tree → S → Tree → List ℕ → Tree
woven_in asked put s (Tree.cons t u) answers =
    Tree.cons (woven_in asked put s t (first t answers)) (woven_in asked put (state_after (run asked s (visits t))) u (after t answers))
woven_in asked put s (Tree.pair t u) answers =
    Tree.pair (woven_in asked put s t (first t answers)) (woven_in asked put (state_after (run asked s (visits t))) u (after t answers))
woven_in asked put s (Tree.row k t) answers = Tree.row k (woven_in asked put s t answers)
woven_in asked put s (Tree.sized t) answers = Tree.sized (woven_in asked put s t answers)
woven_in asked put s (Tree.scope t) answers = Tree.scope (woven_in asked put (state_after (asked s Push)) t (first t (drop 1 answers)))
woven_in asked put s t answers = woven asked put s t answers

-- No frame round what a section of the component becomes is above the ceiling, what was put into it counted; nor is one inside it. Of the
-- bodies of what was put nothing is said.
abbrev pub FitsIn : {S E : Type 0} → Asks S E → Puts S Tree → ℕ → S → Tree → List ℕ → Type 0
FitsIn asked put c s (Tree.cons t u) answers = FitsIn asked put c s t (first t answers) × FitsIn asked put c (state_after (run asked s (visits t))) u (after t answers)
FitsIn asked put c s (Tree.pair t u) answers = FitsIn asked put c s t (first t answers) × FitsIn asked put c (state_after (run asked s (visits t))) u (after t answers)
FitsIn asked put c s (Tree.row k t) answers = FitsIn asked put c s t answers
FitsIn asked put c s (Tree.sized t) answers = FitsIn asked put c s t answers × (length (normal (woven_in asked put s t answers)) ≤ c)
FitsIn asked put c s (Tree.scope t) answers = FitsIn asked put c (state_after (asked s Push)) t (first t (drop 1 answers))
FitsIn asked put c s t answers = Fits (fill t answers) c

-- the run over the visits of a tree is accepted, the woven tree is this one, and these frames fit
pub record AcceptsIn {S E : Type 0} (asked : Asks S E) (put : Puts S Tree) (c : ℕ) (s : S) (t u : Tree) (m : S) : Type 0 where
  pub given : List ℕ
  pub ran : run asked s (visits t) ≡ accepted given m
  pub wove : woven_in asked put s t given ≡ u
  pub fits : FitsIn asked put c s t given

-- The walk is accepted exactly where the run is, and these frames fit; only of a tree that no bytes spell may it be refused there.
pub record WeaveInIsRun {S E : Type 0} (asked : Asks S E) : Type 0 where
  pub forth : (put : Puts S Tree) (c : ℕ) (s m : S) (t u : Tree) → weave_in asked put c s t ≡ accepted u m → AcceptsIn asked put c s t u m
  pub back : (put : Puts S Tree) (c : ℕ) (s m : S) (t u : Tree) (bytes : List ℕ) → Spelled t bytes → AcceptsIn asked put c s t u m → weave_in asked put c s t ≡ accepted u m

-- The bytes are read as this component, whose sections were accepted; the output is the normal spelling of its woven tree.
pub record IsWoven {S E : Type 0} (asked : Asks S E) (put : Puts S Tree) (ceiling depth : ℕ) (bytes : List ℕ) (s m : S) (out : List ℕ) : Type 0 where
  pub tree : Tree
  pub reads : ComponentReading depth bytes tree
  pub made : Tree
  pub accepts : AcceptsIn asked put ceiling s tree made m
  pub spelled : out ≡ normal made

-- with Ok, what was added is the bytes' component woven, and what the hooks add in it fits
abbrev pub IfWoven : {S E : Type 0} → Asks S E → Puts S SectionRow → ℕ → List ℕ → S → Sections → S → Sections → Result (Unit {0}) (Error E) → Type 0
IfWoven asked adds depth bytes s old m new (Ok _) =
    (out : List ℕ) × Adds old new out × (w : IsWoven asked (added adds) old.ceiling depth bytes s m out) × AddsFit asked adds old.ceiling s (visits w.tree)
IfWoven asked adds depth bytes s old m new (Err e) = Unit {0}

-- Whatever the section hooks add, Ok comes only where the bytes are read as a component at this depth, whose visits are accepted and whose
-- woven frames fit, as does each section that is added at one of the visits; what was added is the normal spelling of the woven tree, and the
-- state is the one that the run leaves.
abbrev pub OkIsWoven : {S E : Type 0} → Ghosts S E → Type 0
OkIsWoven i = OfCalls i (λ depth bytes s old m new result. IfWoven (asks i) i.adds depth bytes s old m new result)

-- Whatever the section hooks add, bytes that are read as such a component come to that output and that state, or memory runs out, where no
-- section that is added at a section visit of the run has a body above the ceiling.
abbrev pub WovenIsAnswered : {S E : Type 0} → Ghosts S E → Type 0
WovenIsAnswered {S} i =
    OfCalls i (λ depth bytes s old m new result. (out : List ℕ) (n : S) (w : IsWoven (asks i) (added i.adds) old.ceiling depth bytes s n out) →
    AddsFit (asks i) i.adds old.ceiling s (visits w.tree) → AddsOrWants out n old m new result)
