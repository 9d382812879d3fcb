-- A start that is the whole of some bytes.
use Rattle.std.proofs.Common.{◌≢◌, ℕ, List, [], refl, sym, append-nil}
use Rattle.wasm_shapes.specs.Tree.{Tree}
use Rattle.wasm_shapes.specs.Place.{Begins, BeginsNone}
use Rattle.wasm_shapes.specs.Spells.{Spells}
use Rattle.wasm_shapes.specs.Component.{component_start}
use Rattle.wasm_read.proofs.Subsections.{begins_one}

pub start_short : {bytes left : List ℕ} {u : Tree} → Begins component_start bytes u left → left ≢ [] → (t : Tree) → Spells component_start bytes t → ⊥
start_short {bytes = bytes} p more t q = more (begins_one refl refl p (record { text = bytes; spells = q; reads = sym (append-nil bytes) })).1

pub start_none : {bytes : List ℕ} → BeginsNone component_start bytes → (t : Tree) → Spells component_start bytes t → ⊥
start_none {bytes = bytes} none t q = none.none bytes [] t q (sym (append-nil bytes))
