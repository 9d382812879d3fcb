-- Rows that were accepted, in front of a step over those behind them.
use Rattle.std.proofs.Common.{◌≡◌, List, [], ◌∷◌, ◌++◌, refl, sym, ap}
use Rattle.wasm_shapes.specs.Tree.{Tree}
use Rattle.wasm_shapes.specs.Rows.{rows_then}
use Rattle.wasm_shapes.proofs.Rows.{rows_then-append}
use Rattle.reencode_hooks.specs.declared.error.Error.{Error}
use Rattle.reencode_hooks.specs.Run.{Step, accepted, refused, and_then}
use Rattle.reencode_items.specs.Rows.{onto_rows}

pub rows_then-both : (ts us : List Tree) (others : Tree) → rows_then (ts ++ us) others ≡ rows_then ts (rows_then us others)
rows_then-both [] us others = refl
rows_then-both (t ∷ ts) us others = ap (λ (u : Tree). Tree.cons t u) (rows_then-both ts us others)

pub onto_nothing : {S E : Type 0} (step : Step S (Error E) Tree) → step ≡ onto_rows [] step
onto_nothing (accepted u m) = refl
onto_nothing (refused e m) = refl

-- one row more in front of a step
pub one_onto : {S E : Type 0} (made : List Tree) (t : Tree) (step : Step S (Error E) Tree) →
    onto_rows made (and_then step (λ u m. accepted (Tree.cons t u) m)) ≡ onto_rows (made ++ t ∷ []) step
one_onto made t (accepted u m) = ap (λ (z : Tree). accepted z m) (sym (rows_then-append made t u))
one_onto made t (refused e m) = refl

-- several rows more
pub onto_onto : {S E : Type 0} (xs ys : List Tree) (step : Step S (Error E) Tree) → onto_rows xs (onto_rows ys step) ≡ onto_rows (xs ++ ys) step
onto_onto xs ys (accepted u m) = ap (λ (t : Tree). accepted t m) (sym (rows_then-both xs ys u))
onto_onto xs ys (refused e m) = refl
