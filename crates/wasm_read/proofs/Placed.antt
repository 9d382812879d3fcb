-- Places behind what was read.
use Rattle.std.proofs.Common.{◌≡◌, ℕ, ◌+◌, ◌-◌, ◌<◌, ◌≤◌, List, [], ◌∷◌, ◌++◌, length, length-append, drop, false, true, sym, ap, ◌∙◌, refl, arith}
use Rattle.std.proofs.lemmas.List.{length-drop}
use Rattle.wasm_leb.proofs.Placed.{left_at}
use Rattle.wasm_shapes.specs.Tree.{Tree}
use Rattle.wasm_shapes.specs.Shape.{Shape}
use Rattle.wasm_shapes.specs.Sound.{nullable}
use Rattle.wasm_shapes.specs.Spells.{Spells}
use Rattle.wasm_shapes.specs.Place.{Begins}
use Rattle.wasm_shapes.proofs.Begins.{begins_here}
use Rattle.wasm_shapes.proofs.Fronts.{nullable_sound}

-- What the bytes from a place on begin with leaves the bytes from a later place on.
pub placed : {s : Shape} {t : Tree} {front rest : List ℕ} (bytes : List ℕ) (at : ℕ) → front ≡ drop at bytes → Begins s front t rest →
    Begins s (drop at bytes) t (drop (length bytes - length rest) bytes)
placed {rest = rest} bytes at e p =
    let here : drop at bytes ≡ p.text ++ rest = sym e ∙ p.reads in
    rw (left_at bytes p.text rest at here) (begins_here (sym e) p)

pub takes_bytes : {s : Shape} {t : Tree} (text : List ℕ) → nullable s ≡ false → Spells s text t → 0 < length text
takes_bytes {s = s} [] fills p = let empty : nullable s ≡ true = nullable_sound p.shaped [] p.spelled refl in absurd cc
takes_bytes (b ∷ text) fills p = omega arith

-- The later place is later, and not past the end.
pub forward : {s : Shape} {t : Tree} {front rest : List ℕ} (bytes : List ℕ) (at : ℕ) → nullable s ≡ false → front ≡ drop at bytes → Begins s front t rest →
    (at < length bytes - length rest) × (length bytes - length rest ≤ length bytes)
forward {rest = rest} bytes at fills e p =
    let long : length (drop at bytes) ≡ length p.text + length rest = ap length (sym e ∙ p.reads) ∙ length-append p.text rest in
    let left : length (drop at bytes) ≡ length bytes - at = length-drop at bytes in
    let some : 0 < length p.text = takes_bytes p.text fills p.spells in
    (omega arith, omega arith)
