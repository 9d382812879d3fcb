-- How often each hook is asked.
use Rattle.std.specs.Prelude.{ℕ, ◌+◌, ◌-◌, ◌^◌, min, List, [], ◌∷◌, slice_index, slice_set}
use Rattle.wasm_shapes.specs.declared.Visit.{Visit}
use Rattle.wasm_shapes.specs.declared.Visit.TheVariants.{Index, Outer, Section, Closed, Push, Pop}
use Rattle.reencode_hooks.specs.declared.asked.Asked.TheVariants as what
use Rattle.reencode_hooks.specs.Renamings.{count_place}

-- one more at a place; a count at 2^64 - 1 stays
abbrev pub raised : List ℕ → ℕ → List ℕ
raised counts k = slice_set counts k (min (slice_index counts k + 1) (2 ^ 64 - 1))

-- the counts after a visit, which raises one of them, unless it is one of the closing hook
abbrev pub counted_at : List ℕ → Visit → List ℕ
counted_at counts (Index s i) = raised counts (count_place (what.Of s))
counted_at counts (Outer s c i) = raised counts (count_place (what.Of s))
counted_at counts (Section after before) = raised counts (count_place what.SectionHook)
counted_at counts (Closed kind) = counts
counted_at counts Push = raised counts (count_place what.Push)
counted_at counts Pop = raised counts (count_place what.Pop)

-- the counts after some visits
abbrev pub counted : List ℕ → List Visit → List ℕ
counted counts [] = counts
counted counts (v ∷ vs) = counted (counted_at counts v) vs
