-- The walk of a reencoder over a tree under a ceiling.
use Rattle.std.specs.Prelude.{ℕ, length, nat_le, Option, Some, None, if◌then◌else◌}
use Rattle.wasm_shapes.specs.declared.SectionId.{SectionId}
use Rattle.wasm_shapes.specs.declared.Space.TheVariants as space
use Rattle.wasm_shapes.specs.declared.Visit.{Visit}
use Rattle.wasm_shapes.specs.declared.Visit.TheVariants.{Index, Outer, Section, Closed, Push, Pop}
use Rattle.wasm_shapes.specs.Tree.{Tree, normal, aimed_at, kind}
use Rattle.reencode_hooks.specs.declared.error.Error.{Error}
use Rattle.reencode_hooks.specs.declared.error.Error.TheVariants.{TooLarge, CanonicalizedHeapTypeReference}
use Rattle.reencode_hooks.specs.Run.{Step, accepted, refused, and_then}

-- the frame round a body, or the refusal of one above the ceiling
abbrev pub closed : {S E : Type 0} → ℕ → Tree → S → Step S (Error E) Tree
closed ceiling u m = if nat_le (length (normal u)) ceiling then accepted (Tree.sized u) m else refused (TooLarge (length (normal u))) m

-- the section hook before a section, where it is told of it
abbrev pub announced : {S E : Type 0} → (S → Visit → Step S (Error E) ℕ) → S → Option SectionId → Tree → Step S (Error E) ℕ
announced asked s last (Tree.row k t) = announced asked s last t
announced asked s last (Tree.told k t) = asked s (Section last (Some k))
announced asked s last _ = accepted 0 s

-- the closing hook behind a section, where it is told of it
abbrev pub followed : {S E : Type 0} → (S → Visit → Step S (Error E) ℕ) → S → Tree → Step S (Error E) ℕ
followed asked s (Tree.row k t) = followed asked s t
followed asked s (Tree.told k t) = asked s (Closed k)
followed asked s _ = accepted 0 s

-- Each index is asked in order and replaced by its answer, and each frame is measured when it closes.
-- The kind is that of the last section of the module so far.
abbrev pub walk_from : {S E : Type 0} → (S → Visit → Step S (Error E) ℕ) → ℕ → Option SectionId → S → Tree → Step S (Error E) Tree
walk_from asked c last s (Tree.ix p i) = and_then (asked s (Index p i)) (λ n m. accepted (Tree.ix p n) m)
walk_from asked c last s (Tree.sx p i) = and_then (asked s (Index p i)) (λ n m. accepted (Tree.sx p n) m)
walk_from asked c last s (Tree.outer p k i) = and_then (asked s (Outer p k i)) (λ n m. accepted (Tree.outer p k n) m)
walk_from asked c last s (Tree.mem a i o) = and_then (asked s (Index space.Memory i)) (λ n m. accepted (Tree.mem a n o) m)
walk_from asked c last s (Tree.canonical i) = refused CanonicalizedHeapTypeReference s
walk_from asked c last s (Tree.pair t u) =
    and_then (walk_from asked c None s t) (λ t' m. and_then (walk_from asked c None m u) (λ u' n. accepted (Tree.pair t' u') n))
walk_from asked c last s (Tree.swap t u) =
    and_then (walk_from asked c None s u) (λ u' m. and_then (walk_from asked c None m t) (λ t' n. accepted (Tree.swap t' u') n))
walk_from asked c last s (Tree.cons t u) =
    and_then (walk_from asked c None s t) (λ t' m. and_then (walk_from asked c None m u) (λ u' n. accepted (Tree.cons t' u') n))
walk_from asked c last s (Tree.vec t) = and_then (walk_from asked c None s t) (λ u m. accepted (Tree.vec u) m)
walk_from asked c last s (Tree.present t) = and_then (walk_from asked c None s t) (λ u m. accepted (Tree.present u) m)
walk_from asked c last s (Tree.sized t) = and_then (walk_from asked c None s t) (λ u m. closed c u m)
walk_from asked c last s (Tree.row k t) = and_then (walk_from asked c None s t) (λ u m. accepted (Tree.row k u) m)
walk_from asked c last s (Tree.scope t) =
    and_then (asked s Push) (λ _ m. and_then (walk_from asked c None m t) (λ u n. and_then (asked n Pop) (λ _ k. accepted (Tree.scope u) k)))
walk_from asked c last s (Tree.spare b t) = and_then (walk_from asked c None s t) (λ u m. accepted (Tree.spare b u) m)
walk_from asked c last s (Tree.kept b t) = and_then (walk_from asked c None s t) (λ u m. accepted (Tree.kept b u) m)
walk_from asked c last s (Tree.final t u) =
    and_then (walk_from asked c None s t) (λ t' m. and_then (walk_from asked c None m u) (λ u' n. accepted (Tree.final t' u') n))
walk_from asked c last s (Tree.until b t) = and_then (walk_from asked c None s t) (λ u m. accepted (Tree.until b u) m)
walk_from asked c last s (Tree.op k t) = and_then (walk_from asked c None s t) (λ u m. accepted (Tree.op k u) m)
walk_from asked c last s (Tree.left w o t) =
    and_then (walk_from asked c None s t) (λ t' m. and_then (asked m (Index space.Table 0)) (λ i n. and_then (walk_from asked c None n o) (λ o' k. accepted (aimed_at w i o' t') k)))
walk_from asked c last s (Tree.aimed w i o t) =
    and_then (walk_from asked c None s t) (λ t' m. and_then (asked m (Index space.Table i)) (λ j n. and_then (walk_from asked c None n o) (λ o' k. accepted (Tree.aimed w j o' t') k)))
walk_from asked c last s (Tree.placed i o t) =
    and_then (asked s (Index space.Memory i)) (λ j m. and_then (walk_from asked c None m o) (λ o' n. and_then (walk_from asked c None n t) (λ t' k. accepted (Tree.placed j o' t') k)))
walk_from asked c last s (Tree.told k t) = and_then (walk_from asked c None s t) (λ u m. accepted (Tree.told k u) m)
walk_from asked c last s Tree.finish = and_then (asked s (Section last None)) (λ _ m. accepted Tree.finish m)
walk_from asked c last s (Tree.also t u) =
    and_then (announced asked s last t) (λ _ m. and_then (walk_from asked c None m t)
    (λ t' n. and_then (followed asked n t) (λ _ l. and_then (walk_from asked c (kind last t) l u) (λ u' k. accepted (Tree.also t' u') k))))
walk_from asked c last s t = accepted t s

-- what a walk over a tree gives: the filled tree, or the first refusal, or the first frame above the ceiling
abbrev pub walk : {S E : Type 0} → (S → Visit → Step S (Error E) ℕ) → ℕ → S → Tree → Step S (Error E) Tree
walk asked c s t = walk_from asked c None s t
