-- The walk of a reencoder whose section hooks add: the added sections stand in the tree, each where its visit stands.
use Rattle.std.specs.Prelude.{◌≡◌, ℕ, List, [], ◌∷◌, ◌++◌, length, map, drop, Option, Some, None}
use Rattle.wasm_shapes.specs.declared.SectionId.{SectionId}
use Rattle.wasm_shapes.specs.declared.Visit.{Visit}
use Rattle.wasm_shapes.specs.declared.Visit.TheVariants.{Section, Closed}
use Rattle.wasm_shapes.specs.Tree.{Tree, kind, before, behind, visits_from, after, past, fill}
use Rattle.wasm_shapes.specs.Module.{alsos}
use Rattle.wasm_write.specs.Sections.{SectionRow, framed_tree}
use Rattle.reencode_hooks.specs.declared.error.Error.{Error}
use Rattle.reencode_hooks.specs.Hooks.{MayAdd}
use Rattle.reencode_hooks.specs.Run.{Step, accepted, and_then, state_after, run}
use Rattle.reencode_hooks.specs.Walk.{walk, walk_from, announced, followed}
use Rattle.reencode_core.specs.Rows.{Asks}
use Rattle.reencode_core.specs.Core.{onto}

-- what the section hook and the closing hook put at a visit, as rows or as trees
abbrev pub Puts : Type 0 → Type 0 → Type 0
Puts S A = S → Visit → List A

-- the sections that they add, as trees
abbrev pub added : {S : Type 0} → Puts S SectionRow → Puts S Tree
added adds s v = map framed_tree (adds s v)

-- what is put at a visit of the kind of a section, where the hooks are told of it
abbrev pub put_at : {S A : Type 0} → Puts S A → (SectionId → Visit) → S → Tree → List A
put_at put visit s (Tree.row k t) = put_at put visit s t
put_at put visit s (Tree.told k t) = put s (visit k)
put_at put visit s _ = []

-- what stands before a section, and what behind it
abbrev pub put_before : {S A : Type 0} → Puts S A → S → Option SectionId → Tree → List A
put_before put s last t = put_at put (λ k. Section last (Some k)) s t

abbrev pub put_behind : {S A : Type 0} → Puts S A → S → Tree → List A
put_behind put s t = put_at put (λ k. Closed k) s t

-- the kind of the last of these sections that are of a known kind, where this was the last one before them
abbrev pub kind_after : Option SectionId → List Tree → Option SectionId
kind_after last [] = last
kind_after last (t ∷ ts) = kind_after (kind last t) ts

-- a section, with what was put before it and behind it
abbrev pub woven_one : {S E : Type 0} → Asks S E → Puts S Tree → ℕ → Option SectionId → S → Tree → Step S (Error E) (List Tree)
woven_one asked put c last s t =
    and_then (announced asked s last t) (λ _ m. and_then (walk asked c m t) (λ u n. and_then (followed asked n t) (λ _ k.
    accepted (put_before put s last t ++ u ∷ put_behind put n t) k)))

-- The walk with these put before each section asked for, behind it, and at the end. The kind is that of the last section so far.
abbrev pub weave_from : {S E : Type 0} → Asks S E → Puts S Tree → ℕ → Option SectionId → S → Tree → Step S (Error E) Tree
weave_from asked put c last s (Tree.pair t u) =
    and_then (weave_from asked put c None s t) (λ t' m. and_then (weave_from asked put c None m u) (λ u' n. accepted (Tree.pair t' u') n))
weave_from asked put c last s Tree.finish = and_then (asked s (Section last None)) (λ _ m. accepted (alsos (put s (Section last None)) Tree.finish) m)
weave_from asked put c last s (Tree.also t u) =
    and_then (woven_one asked put c last s t) (λ us n. onto us (weave_from asked put c (kind last t) n u))
weave_from asked put c last s t = walk_from asked c last s t

-- the walk with what is put before each section that the hooks are asked of, behind it, and at the end
abbrev pub weave : {S E : Type 0} → Asks S E → Puts S Tree → ℕ → S → Tree → Step S (Error E) Tree
weave asked put c s t = weave_from asked put c None s t

-- ---- the same in terms of the run

-- this holds at each visit among these at which sections may be added, of the state that the run over those before it leaves
abbrev pub AtSections : {S E : Type 0} → Asks S E → S → List Visit → (S → Visit → Type 0) → Type 0
AtSections asked s visits P =
    (front : List Visit) (v : Visit) (rest : List Visit) → MayAdd v → visits ≡ front ++ v ∷ rest → P (state_after (run asked s front)) v

-- the filled tree, with what is put at each visit of the two hooks, in the state of the run at that visit
abbrev pub woven_from : {S E : Type 0} → Asks S E → Puts S Tree → Option SectionId → S → Tree → List ℕ → Tree
woven_from asked put last s (Tree.pair t u) answers =
    Tree.pair (woven_from asked put None s t answers) (woven_from asked put None (state_after (run asked s (visits_from None t))) u (after t answers))
woven_from asked put last s Tree.finish answers = alsos (put s (Section last None)) Tree.finish
woven_from asked put last s (Tree.also t u) answers =
    let own = drop (length (before None t)) answers in
    alsos (put_before put s last t) (Tree.also (fill t own)
    (alsos (put_behind put (state_after (run asked s (before last t ++ visits_from None t))) t)
    (woven_from asked put (kind last t) (state_after (run asked s (before last t ++ (visits_from None t ++ behind t)))) u (past t own))))
woven_from asked put last s t answers = fill t answers

abbrev pub woven : {S E : Type 0} → Asks S E → Puts S Tree → S → Tree → List ℕ → Tree
woven asked put s t answers = woven_from asked put None s t answers
