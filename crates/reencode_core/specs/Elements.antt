-- The table of an element segment that is placed in one.
use Rattle.std.specs.Prelude.{ℕ, zero, suc, Option, Some, None}

-- the table that is asked for: the first, where it is left out
abbrev pub asked_table : Option ℕ → ℕ
asked_table None = 0
asked_table (Some i) = i

-- the table by its answer: one that was left out and is answered 0 stays left out
abbrev pub answered_table : Option ℕ → ℕ → Option ℕ
answered_table None zero = None
answered_table None (suc i) = Some (suc i)
answered_table (Some _) i = Some i
