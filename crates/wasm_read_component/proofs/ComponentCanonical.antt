-- A canonical function at the front of some bytes, by the row of its byte.
use Rattle.std.proofs.Common.{◌≡◌, ℕ, List, ◌∷◌, Some, sym, subst}
use Rattle.wasm_shapes.specs.declared.canonical.CanonicalForm.{CanonicalForm}
use Rattle.wasm_shapes.specs.Tree.{Tree}
use Rattle.wasm_shapes.specs.Shape.{Shape}
use Rattle.wasm_shapes.specs.Place.{Begins}
use Rattle.wasm_shapes.specs.Component.{canonical_at, canonical_function, form_of, number_of, operands}
use Rattle.wasm_shapes.specs.Types.{led}
use Rattle.wasm_shapes.proofs.Begins.{begins_byte, begins_row, begins_seq}
use Rattle.wasm_shapes.proofs.CanonicalRows.{canonical_row_is}

pub canonical_begins : (b : ℕ) {f : CanonicalForm} {bytes xs left : List ℕ} {t : Tree} → form_of (canonical_at b) ≡ Some f → bytes ≡ b ∷ xs → Begins (operands f) xs t left →
    Begins canonical_function bytes (Tree.row (number_of (canonical_at b)) (led b t)) left
canonical_begins b {bytes = bytes} {left = left} {t = t} e h p =
    let P : Shape → Type 0 = λ z. Begins z bytes (led b t) left in
    begins_row (subst P (sym (canonical_row_is b e)) (begins_seq (begins_byte h) p))
